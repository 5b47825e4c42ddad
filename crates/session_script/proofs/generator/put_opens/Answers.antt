use Rattle.session_script.proofs.Imports.{◌≡◌, ◌++◌, ◌+◌, ◌-◌, ◌∙◌, map, ap, arith, flat_map, range_with_len, act_of, numbers, lines_of_reader}
use Rattle.session_script.proofs.Lists.{put_more}
use Rattle.session_script.proofs.generator.put_opens.Goals as goal

pub loop-reader-preserved : goal.loop-reader-preserved
loop-reader-preserved c = put_more (lines_of_reader c.args.size) (map act_of c.args.tasks.now.items) _ _ 1 (c.loop-reader.reader - 1) (c.loop-reader.reader + 1 - 1)
    c.loop-reader.reader (omega arith) (omega arith) c.loop-reader.invariant c.in_ok-put_opens_of.ensures

pub returns : goal.returns
unfolding numbers
returns c = let end = c.loop-reader.auto.reader-end (omega arith) in let all : c.loop-reader.reader - 1 ≡ c.args.size = omega (arith, end) in
    c.loop-reader.invariant ∙ ap (λ n. map act_of c.args.tasks.now.items ++ flat_map (lines_of_reader c.args.size) (range_with_len 1 n)) all
