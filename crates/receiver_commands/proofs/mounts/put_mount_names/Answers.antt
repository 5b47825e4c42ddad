use Rattle.std.proofs.Common.{◌≡◌, ◌≤◌, ◌+◌, ◌∙◌, length, map, drop, sym, ap, arith, List}
use Rattle.std.specs.List.{flat_map}
use Rattle.std.proofs.lemmas.Result.{err_from_is_err_and}
use Rattle.std.proofs.lemmas.List.{take_all}
use Rattle.std.proofs.lemmas.List.Folds.{flat_map-map}
use Rattle.mount_table.specs.declared.mount.Mount.{Mount}
use Rattle.mount_table.specs.Stands.{mounts_of}
use Rattle.shell_streams.specs.Cuts.{Bytes}
use Rattle.shell_streams.proofs.CallerLemmas.{puts_nothing, puts_then, puts_stop, puts_as}
use Rattle.shell_words.specs.Texts.{name_line}
use Rattle.receiver_commands.proofs.Parts.{parts_more, parts_all}
use Rattle.receiver_commands.proofs.mounts.put_mount_names.Goals as goal

-- the line of a mount's name
abbrev line_of : Mount → Bytes
line_of m = name_line m.name

all_lines : (table : List Mount) → flat_map line_of table ≡ flat_map name_line (map (λ m. m.name) table)
all_lines table = sym (flat_map-map name_line (λ (m : Mount). m.name) table)

pub loop-i-init : goal.loop-i-init
loop-i-init g c = puts_nothing tt _

pub returns-in_err-put_name : goal.returns-in_err-put_name
returns-in_err-put_name g c =
    let p = err_from_is_err_and c.from_residual.result c.from_residual.ensures.1 in
    let table = mounts_of c.args.mounts.now in
    rw (p.1, p.2) (puts_as (parts_all line_of table (c.loop-i.i + 1) ∙ all_lines table) (puts_stop (flat_map line_of (drop (c.loop-i.i + 1) table))
    (puts_as (parts_more line_of table c.loop-i.i c.mount.result.now c.mount.ensures) (puts_then c.loop-i.invariant (rw c.bytes.ensures at c.in_err-put_name.ensures)))))

pub loop-i-preserved : goal.loop-i-preserved
loop-i-preserved g c =
    puts_as (parts_more line_of (mounts_of c.args.mounts.now) c.loop-i.i c.mount.result.now c.mount.ensures) (puts_then c.loop-i.invariant (rw c.bytes.ensures at c.in_ok-put_name.ensures))

pub returns : goal.returns
returns g c =
    let table = mounts_of c.args.mounts.now in
    let all : length table ≤ c.loop-i.i = omega (arith, c.len-i-end.ensures, c.loop-i-test.false) in
    puts_as (ap (flat_map line_of) (take_all c.loop-i.i table all) ∙ all_lines table) c.loop-i.invariant
