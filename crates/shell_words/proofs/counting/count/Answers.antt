use Rattle.std.proofs.Common.{◌∙◌, ap}
use Rattle.std.specs.String.{string_bytes}
use Rattle.clap.specs.Words.{app_of, is_simple_and_free}
use Rattle.shell_words.proofs.Faults.{is_free, sound_fits, faulty_misfits}
use Rattle.shell_words.proofs.counting.count.Goals as goal

pub returns-in-Ok-try_get_matches_from-clause-fits : goal.returns-in-Ok-try_get_matches_from-clause-fits
returns-in-Ok-try_get_matches_from-clause-fits c =
    let free = ap is_simple_and_free c.in-Ok.ensures ∙ is_free c.args.keyword in
    sound_fits c.args.keyword (app_of c.in-Ok.syntax) string_bytes c.args.words.now c.in-Ok.ensures c.requires.keyword c.requires.plain (c.in-Ok-try_get_matches_from.ensures.kinds free)

pub returns : goal.returns
returns c =
    let free = ap is_simple_and_free c.in-Ok.ensures ∙ is_free c.args.keyword in
    record {
      fits = tt;
      misfits = λ _ h. faulty_misfits c.args.keyword (app_of c.in-Ok.syntax) string_bytes c.args.words.now _ c.in-Ok.ensures c.requires.keyword c.requires.plain
          (λ e. c.in_default-kind.not-OutOfMemory (c.kind.ensures ∙ e)) (c.in-Err.ensures.kinds free) h;
    }
