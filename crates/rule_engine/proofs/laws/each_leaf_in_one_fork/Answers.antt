use Rattle.rule_engine.proofs.Parting.{each-leaf-in-one}
use Rattle.rule_engine.proofs.laws.each_leaf_in_one_fork.Goals as goal

pub returns : goal.returns
returns c = each-leaf-in-one
