use Rattle.std.proofs.Common.{◌≡◌, ◌∙◌, List, [], ap, map, subst, Err}
use Rattle.std.proofs.lemmas.Result.{err_from_is_err_and}
use Rattle.clap.specs.Walk.{Text}
use Rattle.clap.specs.Faults.{fault_of, is_simple_and_free}
use Rattle.command_words.specs.declared.command.WordsFault.TheVariants.{Usage}
use Rattle.command_words.proofs.Shapes.{bare_simple}
use Rattle.command_words.proofs.Readings.{bare_read, bare_refused}
use Rattle.command_words.proofs.parser.read_bare.Goals as goal

pub returns-in_err-parsed-clause-usage : goal.returns-in_err-parsed-clause-usage
returns-in_err-parsed-clause-usage c =
    let p = err_from_is_err_and c.from_residual.result c.from_residual.ensures.1 in
    let app = c.new.ensures.app in
    let words : List Text = map (λ word. word.now) c.args.words.now in
    λ is end. let fault : c.in_err-parsed.field-0.0 ≡ Usage = cc in c.in_err-parsed.ensures.usage (ap Err fault) (ap is_simple_and_free app ∙ bare_simple c.args.name.now)
    (ap (λ a. fault_of a words) app ∙ bare_refused c.args.name.now words end)

pub returns-clause-ok : goal.returns-clause-ok
returns-clause-ok c =
    let app = c.new.ensures.app in
    let words : List Text = map (λ word. word.now) c.args.words.now in
    let passes = c.in_ok-parsed.ensures.ok (ap is_simple_and_free app ∙ bare_simple c.args.name.now) in
    bare_read c.args.name.now words (subst (λ a. fault_of a words ≡ []) app passes)
