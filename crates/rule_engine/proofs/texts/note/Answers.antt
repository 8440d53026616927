use Rattle.rule_engine.specs.Index.{place_at}
use Rattle.rule_engine.proofs.Noting.{noted, none_from}
use Rattle.rule_engine.proofs.texts.note.Goals as goal

pub returns-in_ok-insert-clause-ok : goal.returns-in_ok-insert-clause-ok
returns-in_ok-insert-clause-ok c = λ other.
    let absent = none_from (place_at c.args.index.now c.args.digest) c.contains_key.result c.contains_key.ensures c.if-not-contains_key.true in
    noted (place_at c.args.index.now) c.args.digest other c.args.place (place_at c.insert.new.self other) absent (c.in_ok-insert.ensures.updates.0 other)
