use Rattle.std.proofs.Common.{ℕ, List, Option, ◌∙◌, ap, sym}
use Rattle.hub_core.specs.Repeats.{is_digest, found_or, place_at}
use Rattle.hub_core.proofs.Noted.{noted, none_from}
use Rattle.hub_core.proofs.remembered.note.Goals as goal

pub returns-in_ok-insert-clause-ok : goal.returns-in_ok-insert-clause-ok
returns-in_ok-insert-clause-ok c = λ other.
    let absent = none_from (place_at c.args.index.now c.in-Some.digest) c.contains_key.result c.contains_key.ensures c.if-not-contains_key.true in
    noted (place_at c.args.index.now) c.in-Some.digest other c.args.place (place_at c.insert.new.self other) absent (c.in_ok-insert.ensures.updates.0 other)
    ∙ ap (λ (o : Option (List ℕ)). found_or (place_at c.args.index.now other) (is_digest other o) c.args.place) (sym c.in-Some.is)
