use Rattle.std.proofs.Common.{◌∙◌}
use Rattle.rule_terms.specs.Parts.{keys_of}
use Rattle.rule_terms.proofs.TableKeys.{has_only-keys}
use Rattle.rule_terms.proofs.shape.has_only.Goals as goal

pub returns : goal.returns
returns c = c.are_keys_of.ensures ∙ has_only-keys (keys_of c.args.shape) c.args.table.now.entries
