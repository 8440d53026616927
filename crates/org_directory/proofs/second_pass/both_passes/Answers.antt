use Rattle.std.proofs.Common.{◌≡◌, ◌∙◌, List, sym, ap, subst, map, None}
use Rattle.org_directory.specs.Register.{IsSound}
use Rattle.org_directory.specs.Reading.{both_passes, keys_of, placed, second_pass, unless_fault}
use Rattle.org_directory.specs.Drafts.{taken_of}
use Rattle.org_directory.specs.declared.object.Object.{Object}
use Rattle.org_directory.proofs.Keeping.{fails-is, map-keys}
use Rattle.org_directory.proofs.Soundness.{sound-of}
use Rattle.org_directory.proofs.second_pass.both_passes.Goals as goal

pub returns-in-Some : goal.returns-in-Some
returns-in-Some c =
    fails-is c.in-Some.fault (both_passes (taken_of c.args.drafts))
    (ap (λ o. unless_fault o (record { domains = c.args.drafts.domains; objects = map (placed (keys_of c.args.drafts.drafts)) c.args.drafts.drafts }))
    (sym c.second_pass.ensures ∙ c.in-Some.is))

pub of-requires-clause-keys : goal.of-requires-clause-keys
of-requires-clause-keys c =
    c.requires.keys
    ∙ sym (ap (map (λ (o : Object). o.key)) (c.in_ok-objects-in-None.ensures ∙ ap (map (placed c.args.drafts.keys)) c.into_vec.ensures)
    ∙ map-keys c.args.drafts.keys c.args.drafts.drafts)

pub of-requires-clause-sound : goal.of-requires-clause-sound
of-requires-clause-sound c =
    let none : second_pass c.args.drafts.drafts c.args.drafts.drafts ≡ None = sym c.second_pass.ensures ∙ c.in-None.is in
    let objects : c.in_ok-objects-in-None.objects ≡ map (placed (keys_of c.args.drafts.drafts)) c.args.drafts.drafts
    = c.in_ok-objects-in-None.ensures ∙ (ap (map (placed c.args.drafts.keys)) c.into_vec.ensures ∙ ap (λ ks. map (placed ks) c.args.drafts.drafts) c.requires.keys) in
    subst (λ (os : List Object). IsSound (record { domains = c.args.drafts.domains; objects = os })) (sym objects) (sound-of c.args.drafts c.requires none)
