use Rattle.std.proofs.Common.{ℕ, length, ◌∙◌, ap}
use Rattle.std.specs.String.{string_bytes}
use Rattle.cycle_planner.specs.Cycle.{cycle_of}
use Rattle.generation.specs.Layouts.{lines_of}
use Rattle.publication_plan.specs.Telling.{cycle_line, cycle_packets}
use Rattle.publication_plan.proofs.Between.{put_made}
use Rattle.publication_plan.proofs.lines.put_cycle.Goals as goal

pub returns : goal.returns
returns g c =
    let weights = c.args.weigh.now.weights in
    let rate = c.args.bitrate in
    let sections : ℕ = length (cycle_of weights (lines_of c.args.generation.now)) in
    let packets : ℕ = length (cycle_packets weights c.args.generation.now) in
    put_made c.push_str.result (string_bytes c.args.text.now) c.deref.result.now (cycle_line sections packets rate) (string_bytes c.push_str.new.self)
    (c.deref.ensures ∙ c.in_ok-line.ensures ∙ ap (λ (k : ℕ). cycle_line k c.in_ok-cycle.cycle.packets rate) c.in_ok-cycle.ensures.sections
    ∙ ap (λ (k : ℕ). cycle_line sections k rate) c.in_ok-cycle.ensures.packets) c.push_str.ensures.bytes
