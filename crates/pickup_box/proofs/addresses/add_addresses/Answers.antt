use Rattle.pickup_box.proofs.Splitting.{goes, ends, left}
use Rattle.pickup_box.proofs.addresses.add_addresses.Goals as goal

pub loop-rest-preserved : goal.loop-rest-preserved
loop-rest-preserved c = record {
  within = left c.args.value.now c.loop-rest.rest.now c.first_len-end.result c.loop-rest.invariant.within;
  so_far = goes c.args.texts.now.items c.loop-rest.texts.items c.add_address.new.texts.items c.args.value.now c.loop-rest.rest.now c.first_len-end.result c.first_len-end.ensures.value c.if-end-rest.false c.in_ok-add_address.ensures c.loop-rest.invariant.so_far;
}

pub returns-then-end-rest : goal.returns-then-end-rest
returns-then-end-rest c = ends c.args.texts.now.items c.loop-rest.texts.items c.add_address.new.texts.items c.args.value.now c.loop-rest.rest.now c.first_len-end.result c.first_len-end.ensures.value c.if-end-rest.true c.in_ok-add_address.ensures c.loop-rest.invariant.so_far
