use Rattle.std.proofs.Common.{List, ◌∷◌, [], ◌++◌, ◌-◌, length, take, drop, ◌∙◌, ap, sym, subst}
use Rattle.mail_message.specs.Message.{Mail}
use Rattle.pickup_box.proofs.Cutting.{Left, goes, finished}
use Rattle.pickup_box.proofs.header.fields_of.Goals as goal

pub alone-requires-clause-field : goal.alone-requires-clause-field
alone-requires-clause-field c = (goes c.args.message.now c.loop-rest.fields.items c.loop-rest.rest.now c.field_len-len.result c.loop-rest.invariant (sym c.is_header_end.ensures ∙ c.loop-rest-test.true) c.field_len-len.ensures.value).field

pub alone-requires-clause-short : goal.alone-requires-clause-short
alone-requires-clause-short c = (goes c.args.message.now c.loop-rest.fields.items c.loop-rest.rest.now c.field_len-len.result c.loop-rest.invariant (sym c.is_header_end.ensures ∙ c.loop-rest-test.true) c.field_len-len.ensures.value).short

pub loop-rest-preserved : goal.loop-rest-preserved
loop-rest-preserved c =
    let step = goes c.args.message.now c.loop-rest.fields.items c.loop-rest.rest.now c.field_len-len.result c.loop-rest.invariant (sym c.is_header_end.ensures ∙ c.loop-rest-test.true) c.field_len-len.ensures.value in
    subst (λ (done : List Mail). Left c.args.message.now done (take (length c.loop-rest.rest.now - c.field_len-len.result) (drop c.field_len-len.result c.loop-rest.rest.now)))
    (sym (c.in_ok-push.ensures.items ∙ ap (λ m. c.loop-rest.fields.items ++ m ∷ []) c.in_ok-alone.ensures))
    step.left

pub loop-rest-smaller : goal.loop-rest-smaller
loop-rest-smaller c = (goes c.args.message.now c.loop-rest.fields.items c.loop-rest.rest.now c.field_len-len.result c.loop-rest.invariant (sym c.is_header_end.ensures ∙ c.loop-rest-test.true) c.field_len-len.ensures.value).shorter

pub returns : goal.returns
returns c = finished c.args.message.now c.loop-rest.fields.items c.loop-rest.rest.now c.loop-rest.invariant (sym c.is_header_end.ensures ∙ c.loop-rest-test.false)
