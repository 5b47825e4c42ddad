use Rattle.std.proofs.Common.{Result, subst, ℕ, arith}
use Rattle.oc_bytes.specs.Outcome.{Gives}
use Rattle.oc_bytes.proofs.CallerLemmas.{bytes_fit, grammar_agrees, is_found, front_read, fault_inside}
use Rattle.ior_tap.specs.Iors.{Fields, ior, view, cause}
use Rattle.ior_tap.specs.declared.Ior.{Ior}
use Rattle.ior_tap.specs.declared.IorFault.{IorFault}
use Rattle.ior_tap.proofs.Grammar.{written_front}
use Rattle.ior_tap.proofs.reading.decode.Goals as goal

abbrev seen : Ior × ℕ → Fields × ℕ
seen x = (view x.0, x.1)

abbrev Answer : Result (Ior × ℕ) IorFault → Result (Fields × ℕ) ℕ → Type 0
Answer r meaning = Gives seen cause r meaning

pub returns-clause-found : goal.returns-clause-found
returns-clause-found c = is_found (grammar_agrees ior) seen cause c.args.bytes.now c.read.result (bytes_fit c.args.bytes.now (λ i. omega (arith, c.type_inv.bytes i))) c.read.ensures.exact

pub returns-clause-only : goal.returns-clause-only
returns-clause-only c = λ i n le h. subst (λ (m : Result (Fields × ℕ) ℕ). Answer c.read.result m) (front_read (grammar_agrees ior) c.args.bytes.now i n (le, h)) c.read.ensures.exact

pub returns-clause-again : goal.returns-clause-again
returns-clause-again c = λ kind rest l form room e. subst (λ (m : Result (Fields × ℕ) ℕ). Answer c.read.result m)
    (written_front kind l form room c.args.bytes.now rest e) c.read.ensures.exact

pub returns-clause-inside : goal.returns-clause-inside
returns-clause-inside c = fault_inside (grammar_agrees ior) seen cause c.args.bytes.now c.read.result (bytes_fit c.args.bytes.now (λ i. omega (arith, c.type_inv.bytes i))) c.read.ensures.exact
