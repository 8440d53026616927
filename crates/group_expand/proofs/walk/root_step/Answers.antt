use Rattle.std.proofs.Common.{◌≡◌, ◌∙◌, ap, [], subst, sym, Some, None}
use Rattle.group_expand.specs.Gates.{answered, shuts}
use Rattle.group_expand.specs.Places.{Holds, Faces}
use Rattle.org_directory.specs.Register.{key_at, place_of}
use Rattle.group_expand.proofs.Asked.{asked}
use Rattle.group_expand.proofs.Steps.{left_out, root-faced, stranger-holds}
use Rattle.org_directory.proofs.Offered.{found-below}
use Rattle.group_expand.proofs.walk.root_step.Goals as goal

pub returns-then-marks-place-clause-holds : goal.returns-then-marks-place-clause-holds
returns-then-marks-place-clause-holds g c = λ whole roots h.
    let is : place_of c.args.directory.now c.args.root.now ≡ Some c.in-Some.place = (cc (c.in-Some.is, c.find.ensures)) in
    left_out c.args.directory.now (shuts c.args.directory.now c.args.gates.now) whole roots c.args.marks.now [] c.in-Some.place c.args.found.now c.requires.ready.sound (found-below c.args.directory.now c.args.root.now c.in-Some.place is).0 c.if-marks-place.true
    (root-faced c.args.directory.now (shuts c.args.directory.now c.args.gates.now) whole roots c.args.marks.now c.args.found.now c.args.root.now c.in-Some.place is h)

pub returns-in_ok-stranger-in-None-clause-holds : goal.returns-in_ok-stranger-in-None-clause-holds
returns-in_ok-stranger-in-None-clause-holds g c = λ whole roots h.
    let none : place_of c.args.directory.now c.args.root.now ≡ None = cc (c.in-None.is, c.find.ensures) in
    subst (λ f. Holds c.args.directory.now (shuts c.args.directory.now c.args.gates.now) whole roots c.args.marks.now [] f) (sym c.in_ok-stranger-in-None.ensures)
    (stranger-holds c.args.directory.now (shuts c.args.directory.now c.args.gates.now) whole roots c.args.marks.now c.args.found.now c.args.root.now none (ap (answered c.args.gates.now.known.items (asked c.args.directory.now c.args.gates.now c.args.root.now)) none) h)

pub returns-in_ok-run-in-Some-clause-holds : goal.returns-in_ok-run-in-Some-clause-holds
returns-in_ok-run-in-Some-clause-holds g c = λ whole roots h.
    let is : place_of c.args.directory.now c.args.root.now ≡ Some c.in-Some.place = (cc (c.in-Some.is, c.find.ensures)) in
    let facing : Faces c.args.directory.now (shuts c.args.directory.now c.args.gates.now) whole roots c.args.marks.now c.args.stack.now.items (key_at c.args.directory.now c.in-Some.place) c.args.found.now
    = subst (λ s. Faces c.args.directory.now (shuts c.args.directory.now c.args.gates.now) whole roots c.args.marks.now s (key_at c.args.directory.now c.in-Some.place) c.args.found.now) (sym c.requires.empty) (root-faced c.args.directory.now (shuts c.args.directory.now c.args.gates.now) whole roots c.args.marks.now c.args.found.now c.args.root.now c.in-Some.place is h) in
    let same : shuts c.args.directory.now c.visit.new.gates ≡ shuts c.args.directory.now c.args.gates.now = c.in_ok-visit-in-Some.ensures.gates.same in
    subst (λ s. Holds c.args.directory.now (shuts c.args.directory.now c.args.gates.now) whole roots c.run.new.marks s c.run.new.found) c.in_ok-run-in-Some.ensures.done
    (subst (λ f. Holds c.args.directory.now f whole roots c.run.new.marks c.run.new.stack.items c.run.new.found) same
    (c.in_ok-run-in-Some.ensures.holds whole roots
    (subst (λ f. Holds c.args.directory.now f whole roots c.visit.new.marks c.visit.new.stack.items c.visit.new.found) (sym same)
    (c.in_ok-visit-in-Some.ensures.met whole roots facing))))

pub returns-in_ok-run-in-Some-clause-gates : goal.returns-in_ok-run-in-Some-clause-gates
returns-in_ok-run-in-Some-clause-gates g c = record {
  ready = c.in_ok-run-in-Some.ensures.gates.ready;
  same = c.in_ok-run-in-Some.ensures.gates.same ∙ c.in_ok-visit-in-Some.ensures.gates.same;
}
