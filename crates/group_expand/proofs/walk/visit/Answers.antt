use Rattle.std.proofs.Common.{◌≡◌, ◌∙◌, ap, subst, sym, arith, set}
use Rattle.group_expand.specs.Gates.{shuts}
use Rattle.group_expand.specs.Places.{Holds, Ready, all_owed, ends_at, entered, is_end_in, is_no_carrier, places_of, stops_at}
use Rattle.org_directory.specs.Register.{key_at}
use Rattle.group_expand.specs.Ways.{here}
use Rattle.std.specs.Prelude.{◌++◌, ◌||◌, ◌≤◌, true, slice_get}
use Rattle.group_expand.proofs.Steps.{visited, ready-visited, owed-visited}
use Rattle.group_expand.proofs.walk.visit.Goals as goal

pub returns-clause-ready : goal.returns-clause-ready
returns-clause-ready c =
    subst (λ s. Ready c.args.directory.now (set c.args.marks.now c.args.place true) s) (sym c.in_ok-meet.ensures.entered)
    (ready-visited c.args.directory.now c.args.marks.now c.args.stack.now.items c.args.place
    c.stops-stops.result c.requires.place c.requires.new c.requires.ready)

pub returns-clause-owed : goal.returns-clause-owed
returns-clause-owed c =
    let stops : c.stops-stops.result ≡ stops_at c.args.directory.now (shuts c.args.directory.now c.args.gates.now) c.args.place
    = c.stops-stops.ensures ∙ ap (λ b. b || is_no_carrier (slice_get c.args.directory.now.objects c.args.place)) c.in_ok-is_closed.ensures.answer in
    let stack : c.meet.new.stack.items ≡ entered (stops_at c.args.directory.now (shuts c.args.directory.now c.args.gates.now) c.args.place) c.args.stack.now.items c.args.place
    = c.in_ok-meet.ensures.entered ∙ ap (λ b. entered b c.args.stack.now.items c.args.place) stops in
    subst (λ s. all_owed c.args.directory.now (set c.args.marks.now c.args.place true) s ≤ all_owed c.args.directory.now c.args.marks.now c.args.stack.now.items)
    (sym stack)
    (owed-visited c.args.directory.now (shuts c.args.directory.now c.args.gates.now) c.args.marks.now c.args.stack.now.items c.args.place c.requires.place c.requires.new c.requires.ready.long)

pub returns-clause-met : goal.returns-clause-met
returns-clause-met c = λ whole roots facing.
    let ends : c.ends-ends.result ≡ ends_at c.args.directory.now (shuts c.args.directory.now c.args.gates.now) c.args.place
    = c.ends-ends.ensures ∙ ap (λ b. b || is_end_in (slice_get c.args.directory.now.objects c.args.place)) c.in_ok-is_closed.ensures.answer in
    let stops : c.stops-stops.result ≡ stops_at c.args.directory.now (shuts c.args.directory.now c.args.gates.now) c.args.place
    = c.stops-stops.ensures ∙ ap (λ b. b || is_no_carrier (slice_get c.args.directory.now.objects c.args.place)) c.in_ok-is_closed.ensures.answer in
    let stack : c.meet.new.stack.items ≡ entered (stops_at c.args.directory.now (shuts c.args.directory.now c.args.gates.now) c.args.place) c.args.stack.now.items c.args.place
    = c.in_ok-meet.ensures.entered ∙ ap (λ b. entered b c.args.stack.now.items c.args.place) stops in
    let found : c.meet.new.found ≡ c.args.found.now ++ here (ends_at c.args.directory.now (shuts c.args.directory.now c.args.gates.now) c.args.place) (places_of c.args.directory.now c.args.stack.now.items) (key_at c.args.directory.now c.args.place)
    = c.in_ok-meet.ensures.found ∙ ap (λ b. c.args.found.now ++ here b (places_of c.args.directory.now c.args.stack.now.items) (key_at c.args.directory.now c.args.place)) ends in
    subst (λ f. Holds c.args.directory.now (shuts c.args.directory.now c.args.gates.now) whole roots (set c.args.marks.now c.args.place true) c.meet.new.stack.items f) (sym found)
    (subst (λ s. Holds c.args.directory.now (shuts c.args.directory.now c.args.gates.now) whole roots (set c.args.marks.now c.args.place true) s
    (c.args.found.now ++ here (ends_at c.args.directory.now (shuts c.args.directory.now c.args.gates.now) c.args.place) (places_of c.args.directory.now c.args.stack.now.items) (key_at c.args.directory.now c.args.place)))
    (sym stack)
    (visited c.args.directory.now (shuts c.args.directory.now c.args.gates.now) whole roots c.args.marks.now c.args.stack.now.items c.args.found.now c.args.place
    c.requires.ready.sound c.requires.place c.requires.ready.long c.requires.new (omega (arith, c.requires.ready.deep)) facing))
