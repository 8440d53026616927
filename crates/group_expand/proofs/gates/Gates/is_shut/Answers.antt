use Rattle.std.proofs.Common.{◌≡◌, ◌<◌, ◌∙◌, ap, sym, subst, length, get_or, Some, None, refl}
use Rattle.std.proofs.lemmas.List.{get_or_default}
use Rattle.org_directory.specs.Register.{key_at}
use Rattle.group_expand.specs.Gates.{decided, shuts}
use Rattle.group_expand.proofs.Asked.{asked, learned, shuts-at}
use Rattle.group_expand.proofs.gates.Gates.is_shut.Goals as goal

pub returns-in-Some-clause-answer : goal.returns-in-Some-clause-answer
returns-in-Some-clause-answer c =
    let inside : c.args.place < length c.args.self.now.known.items = subst (λ n. c.args.place < n) (sym c.requires.ready.room) c.requires.place in
    let read : get_or c.args.self.now.known.items c.args.place None ≡ Some c.in-Some.known
    = get_or_default c.args.self.now.known.items c.args.place None c.index.result.now inside ∙ (sym c.index.ensures ∙ c.in-Some.is) in
    sym (shuts-at c.args.directory.now c.args.self.now c.args.place c.is_sound.ensures c.requires.place
    ∙ ap (λ o. decided o (asked c.args.directory.now c.args.self.now (key_at c.args.directory.now c.args.place))) read)

pub returns-in_ok-shut-in-None-clause-answer : goal.returns-in_ok-shut-in-None-clause-answer
returns-in_ok-shut-in-None-clause-answer c =
    let inside : c.args.place < length c.args.self.now.known.items = subst (λ n. c.args.place < n) (sym c.requires.ready.room) c.requires.place in
    let read : get_or c.args.self.now.known.items c.args.place None ≡ None
    = get_or_default c.args.self.now.known.items c.args.place None c.index.result.now inside ∙ (sym c.index.ensures ∙ c.in-None.is) in
    c.in_ok-shut-in-None.ensures.answer ∙ sym (shuts-at c.args.directory.now c.args.self.now c.args.place c.is_sound.ensures c.requires.place
    ∙ ap (λ o. decided o (asked c.args.directory.now c.args.self.now (key_at c.args.directory.now c.args.place))) read)

pub returns-in_ok-shut-in-None-clause-same : goal.returns-in_ok-shut-in-None-clause-same
returns-in_ok-shut-in-None-clause-same c =
    let inside : c.args.place < length c.args.self.now.known.items = subst (λ n. c.args.place < n) (sym c.requires.ready.room) c.requires.place in
    let read : get_or c.args.self.now.known.items c.args.place None ≡ None
    = get_or_default c.args.self.now.known.items c.args.place None c.index.result.now inside ∙ (sym c.index.ensures ∙ c.in-None.is) in
    let is : c.in_ok-shut-in-None.shut ≡ shuts c.args.directory.now c.args.self.now (key_at c.args.directory.now c.args.place)
    = c.in_ok-shut-in-None.ensures.answer ∙ sym (shuts-at c.args.directory.now c.args.self.now c.args.place c.is_sound.ensures c.requires.place
    ∙ ap (λ o. decided o (asked c.args.directory.now c.args.self.now (key_at c.args.directory.now c.args.place))) read) in
    learned c.args.directory.now c.args.self.now _ c.args.place c.in_ok-shut-in-None.shut c.requires.place c.requires.ready c.in_ok-shut-in-None.ensures.groups (λ k. refl) refl is
