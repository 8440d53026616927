use Rattle.std.proofs.Common.{◌≡◌, ◌∙◌, List, drop, ap, ap₂, map, refl, subst, sym, codes, Some, Err}
use Rattle.std.proofs.lemmas.Result.{err_from_is_err_and}
use Rattle.clap.specs.Walk.{Text}
use Rattle.clap.specs.Faults.{fault_of, is_simple_and_free}
use Rattle.command_words.specs.Parsers.{make_app}
use Rattle.command_words.specs.declared.command.WordsFault.TheVariants.{Usage}
use Rattle.command_words.specs.declared.command.Command.TheVariants.{Make}
use Rattle.command_words.proofs.Readings.{Gave, ReadsMake, gave, gets, make_given, make_refused, u32_reads}
use Rattle.command_words.proofs.parser.read_make.Goals as goal

pub returns-in_err-matches-clause-usage : goal.returns-in_err-matches-clause-usage
returns-in_err-matches-clause-usage c =
    let p = err_from_is_err_and c.from_residual-in_err-matches.result c.from_residual-in_err-matches.ensures.1 in
    let app = c.in_ok-make_parser.ensures in
    let words : List Text = map (λ word. word.now) c.args.words.now in
    λ is submissions workers make. let fault : c.in_err-matches.field-0.0 ≡ Usage = cc in
    c.in_err-matches.ensures.usage (ap Err fault) (ap is_simple_and_free app) (ap (λ a. fault_of a words) app ∙ make_refused words submissions workers make)

pub unwrap-submissions-requires : goal.unwrap-submissions-requires
unwrap-submissions-requires c =
    let words : List Text = map (λ word. word.now) c.args.words.now in
    let m = c.in_ok-matches.matches in
    let given : Gave make_app words m = gave _ make_app words m c.in_ok-make_parser.ensures refl refl c.in_ok-matches.ensures.ok c.in_ok-matches.ensures.matches in
    let workers = gets u32_reads make_app words m (codes "workers") c.get_one-workers.result given c.get_one-workers.ensures.none c.get_one-workers.ensures.value in
    let submissions = gets u32_reads make_app words m (codes "submissions") c.get_one.result given c.get_one.ensures.none c.get_one.ensures.value in
    let read = make_given words m c.get_one.result c.get_one-workers.result given submissions workers in
    rw read.1

read : (c : goal.Joined-matches) → ReadsMake (drop 1 (map (λ word. word.now) c.args.words.now)) c.unwrap-submissions.result c.unwrap_or.result
read c =
    let words : List Text = map (λ word. word.now) c.args.words.now in
    let m = c.in_ok-matches.matches in
    let given : Gave make_app words m = gave _ make_app words m c.in_ok-make_parser.ensures refl refl c.in_ok-matches.ensures.ok c.in_ok-matches.ensures.matches in
    let workers = gets u32_reads make_app words m (codes "workers") c.get_one-workers.result given c.get_one-workers.ensures.none c.get_one-workers.ensures.value in
    let submissions = gets u32_reads make_app words m (codes "submissions") c.get_one.result given c.get_one.ensures.none c.get_one.ensures.value in
    let read = make_given words m c.get_one.result c.get_one-workers.result given submissions workers in
    let same : Some read.0 ≡ Some c.unwrap-submissions.result = sym read.1 ∙ c.unwrap-submissions.ensures in
    let number : read.0 ≡ c.unwrap-submissions.result = cc in
    subst (λ n. ReadsMake (drop 1 words) n c.unwrap_or.result) number (subst (λ w. ReadsMake (drop 1 words) read.0 w) (sym c.unwrap_or.ensures) read.2)

pub returns-clause-ok : goal.returns-clause-ok
returns-clause-ok c = (c.unwrap-submissions.result, c.unwrap_or.result, refl, (read c).is)

pub returns-clause-only : goal.returns-clause-only
returns-clause-only c = λ submissions workers make.
    let same = (read c).only submissions workers make in ap₂ Make (sym same.0) (sym same.1)
