use Rattle.std.proofs.Common.{◌∙◌, length}
use Rattle.std.specs.Str.{is_utf8}
use Rattle.std.proofs.lemmas.Str.{is_utf8-from_IsUtf8}
use Rattle.rule_terms.specs.Forms.{is_within}
use Rattle.rule_terms.proofs.TableKeys.{and-true}
use Rattle.rule_terms.proofs.form.is_word.Goals as goal

pub returns : goal.returns
returns c =
    c.is_within.ensures
    ∙ and-true (is_within 1 256 (length c.args.text.now)) (is_utf8 c.args.text.now) (is_utf8-from_IsUtf8 c.args.text.now c.utf8.text)
