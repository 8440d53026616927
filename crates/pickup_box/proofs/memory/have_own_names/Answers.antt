use Rattle.std.proofs.Common.{◌+◌, ◌-◌, length, take, drop, ◌∙◌, ap, sym, arith}
use Rattle.std.proofs.lemmas.List.{take_rest}
use Rattle.pickup_box.specs.Folder.{File}
use Rattle.pickup_box.proofs.Filing.{own_more}
use Rattle.pickup_box.proofs.memory.have_own_names.Goals as goal

pub loop-i-preserved : goal.loop-i-preserved
loop-i-preserved c = record {
  within = omega arith;
  own = λ more. c.loop-i.invariant.own
      (own_more c.args.files.now (take (length c.args.files.now - (c.loop-i.i + 1)) (drop (c.loop-i.i + 1) c.args.files.now)) c.loop-i.i c.index-files-i.result c.as_slice.result.now
      c.loop-i-test.true c.index-files-i.is (take_rest c.args.files.now (c.loop-i.i + 1))
      (c.as_slice.ensures ∙ ap (λ (f : File). f.0) (sym c.index-files-i.is))
      (sym c.has_file.ensures ∙ c.if-has_file.false) more);
}
