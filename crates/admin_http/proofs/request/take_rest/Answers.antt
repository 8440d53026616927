use Rattle.std.proofs.Common.{[], arith, refl, subst, Option}
use Rattle.port_io.proofs.Offered.{Consumes-nothing}
use Rattle.http_head.specs.declared.deed.Deed.{Deed}
use Rattle.http_head.specs.Deeds.{IsMeant}
use Rattle.admin_http.proofs.Taking.{come-here, short-here, meaningless-here}
use Rattle.admin_http.proofs.request.take_rest.Goals as goal

pub returns-in-Ok-Some-clause-took : goal.returns-in-Ok-Some-clause-took
returns-in-Ok-Some-clause-took g c = λ text p.
    let meant = subst (λ (d : Option Deed). IsMeant c.args.routed.route c.args.target.now d) c.in-Ok-Some.field-0-is c.in-Ok-Some.ensures.ok in
    c.take_body.ensures.took text c.args.target.now c.args.routed p meant refl

pub returns-in-Ok-None-clause-took : goal.returns-in-Ok-None-clause-took
returns-in-Ok-None-clause-took g c = λ text p.
    let meant = subst (λ (d : Option Deed). IsMeant c.args.routed.route c.args.target.now d) c.in-Ok-None.field-0-is c.in-Ok-None.ensures.ok in
    ([], Consumes-nothing _, meaningless-here text c.args.routed c.args.target.now c.args.rest.now p meant)

pub returns-in-Err-clause-took : goal.returns-in-Err-clause-took
returns-in-Err-clause-took g c = λ text p.
    ([], Consumes-nothing _, come-here text c.args.routed c.args.target.now c.args.rest.now c.args.routed.body_length p refl c.if-size-rest.true)

pub returns-in-Err-2-clause-took : goal.returns-in-Err-2-clause-took
returns-in-Err-2-clause-took g c = λ text p.
    ([], Consumes-nothing _, short-here text c.args.routed c.args.target.now c.args.rest.now c.args.routed.body_length p refl (omega (arith, c.if-size-rest.false)))
