use Rattle.std.proofs.Common.{◌≡◌, ◌<◌, ◌⊎◌, ◌∙◌, ℕ, Bool, List, Option, Some, None, ap, arith, get_or, inl, inr, length, set, sym}
use Rattle.std.proofs.lemmas.List.{get_or-set_same, get_or-set_other, get_or_default}
use Rattle.org_directory.specs.Register.{key_at}
use Rattle.org_directory.specs.Membership.{is_in}
use Rattle.group_expand.proofs.groups.Groups.has.Goals as goal

-- One more answer that is true: all that is known is.
one-more : (truth : ℕ → Bool) (known : List (Option Bool)) (p : ℕ) (b : Bool) → p < length known
    → ((q : ℕ) (c : Bool) → get_or known q None ≡ Some c → c ≡ truth q) → b ≡ truth p
    → (q : ℕ) (c : Bool) → get_or (set known p (Some b)) q None ≡ Some c → c ≡ truth q
one-more truth known p b inside all is q c h = by_place (split q)
  where
    split : (n : ℕ) → (n ≡ p) ⊎ (n ≡ p → ⊥)
    split n = grind arith

    by_place : (q ≡ p) ⊎ (q ≡ p → ⊥) → c ≡ truth q
    by_place (inl e) =
        let here : get_or (set known p (Some b)) q None ≡ Some b
        = ap (λ n. get_or (set known p (Some b)) n None) e ∙ get_or-set_same known p (Some b) None inside in
        let same : c ≡ b = cc (h, here) in
        same ∙ (is ∙ ap truth (sym e))
    by_place (inr other) = all q c (sym (get_or-set_other known p q (Some b) None other) ∙ h)

pub returns-in-Some-clause-answer : goal.returns-in-Some-clause-answer
returns-in-Some-clause-answer c =
    let inside : c.args.place < length c.make_room.new.self.known.items = omega (arith, c.in_ok-make_room.ensures.room, c.requires.place) in
    let read : get_or c.make_room.new.self.known.items c.args.place None ≡ Some c.in-Some.known
    = get_or_default c.make_room.new.self.known.items c.args.place None c.index.result.now inside ∙ (sym c.index.ensures ∙ c.in-Some.is) in
    c.in_ok-make_room.ensures.known (Some c.args.sender.now) c.requires.known c.args.place c.in-Some.known read

pub returns-in-Some-clause-known : goal.returns-in-Some-clause-known
returns-in-Some-clause-known c = c.in_ok-make_room.ensures.known (Some c.args.sender.now) c.requires.known

pub returns-in_ok-is_in-in-None-clause-known : goal.returns-in_ok-is_in-in-None-clause-known
returns-in_ok-is_in-in-None-clause-known c =
    one-more (λ p. is_in c.args.directory.now (key_at c.args.directory.now p) c.args.sender.now) c.make_room.new.self.known.items c.args.place c.in_ok-is_in-in-None.is_in
    (omega (arith, c.in_ok-make_room.ensures.room, c.requires.place))
    (c.in_ok-make_room.ensures.known (Some c.args.sender.now) c.requires.known)
    c.in_ok-is_in-in-None.ensures.test
