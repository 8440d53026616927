use Rattle.std.proofs.Common.{◌≡◌, ◌∙◌, List, drop, ap, map, refl, subst, sym, codes, Err}
use Rattle.std.proofs.lemmas.Result.{err_from_is_err_and}
use Rattle.clap.specs.Walk.{Text}
use Rattle.clap.specs.Faults.{fault_of, is_simple_and_free}
use Rattle.command_words.specs.Parsers.{turn_app}
use Rattle.command_words.specs.declared.command.WordsFault.TheVariants.{Usage}
use Rattle.command_words.specs.declared.command.Command.TheVariants.{Turn}
use Rattle.command_words.proofs.Readings.{Gave, ReadsTurn, gave, gets, turn_read, turn_refused, u32_reads}
use Rattle.command_words.proofs.parser.read_turn.Goals as goal

pub returns-in_err-matches-clause-usage : goal.returns-in_err-matches-clause-usage
returns-in_err-matches-clause-usage c =
    let p = err_from_is_err_and c.from_residual-in_err-matches.result c.from_residual-in_err-matches.ensures.1 in
    let app = c.in_ok-turn_parser.ensures in
    let words : List Text = map (λ word. word.now) c.args.words.now in
    λ is workers turn. let fault : c.in_err-matches.field-0.0 ≡ Usage = cc in
    c.in_err-matches.ensures.usage (ap Err fault) (ap is_simple_and_free app) (ap (λ a. fault_of a words) app ∙ turn_refused words workers turn)

read : (c : goal.Joined-matches) → ReadsTurn (drop 1 (map (λ word. word.now) c.args.words.now)) c.unwrap_or.result
read c =
    let words : List Text = map (λ word. word.now) c.args.words.now in
    let m = c.in_ok-matches.matches in
    let got = c.get_one-workers in
    let given : Gave turn_app words m = gave _ turn_app words m c.in_ok-turn_parser.ensures refl refl c.in_ok-matches.ensures.ok c.in_ok-matches.ensures.matches in
    let workers = gets u32_reads turn_app words m (codes "workers") got.result given got.ensures.none got.ensures.value in
    subst (λ n. ReadsTurn (drop 1 words) n) (sym c.unwrap_or.ensures)
    (turn_read u32_reads words _ got.result (λ t x reads. reads.0) given.passes refl workers)

pub returns-clause-ok : goal.returns-clause-ok
returns-clause-ok c = (c.unwrap_or.result, refl, (read c).is)

pub returns-clause-only : goal.returns-clause-only
returns-clause-only c = λ workers turn. ap Turn (sym ((read c).only workers turn))
