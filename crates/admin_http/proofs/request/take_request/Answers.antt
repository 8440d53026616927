use Rattle.std.proofs.Common.{[], ◌++◌}
use Rattle.port_io.proofs.Offered.{Consumes-nothing, Consumes-twice}
use Rattle.admin_http.proofs.Heading.{whole-here, end-here, fault-here}
use Rattle.admin_http.proofs.Taking.{not-whole-nothing, unfinished-open}
use Rattle.admin_http.proofs.request.take_request.Goals as goal

pub returns-in_default-clause-took : goal.returns-in_default-clause-took
returns-in_default-clause-took g c = ([], Consumes-nothing _, not-whole-nothing)

pub returns-in-Ok-Whole-clause-took : goal.returns-in-Ok-Whole-clause-took
returns-in-Ok-Whole-clause-took g c =
    let t = c.in-Ok-Whole.ensures.took in
    let whole = whole-here t.0 c.take_head.new.buffer c.in-Ok-Whole.field-0 c.in-Ok-Whole.routed c.in-Ok-Whole.target_start c.in-Ok-Whole.target_end c.in-Ok-Whole.body_start c.in-Ok-Whole.count
    c.in-Ok-Whole.field-0-is t.2.0 t.2.1 in
    let rest = c.take_rest.ensures.took t.0 whole in
    (t.0 ++ rest.0, Consumes-twice _ _ _ _ _ t.1 rest.1, rest.2)

pub returns-in-Err-End-clause-took : goal.returns-in-Err-End-clause-took
returns-in-Err-End-clause-took g c =
    let t = c.in-Err-End.ensures.took in
    let end = end-here t.0 c.take_head.new.buffer (g.S.Source.left c.take_head.new.source) c.in-Err-End.field-0 c.in-Err-End.field-0-is t.2 in
    (t.0, t.1, (unfinished-open t.0 end.0, end.1))

pub returns-clause-took : goal.returns-clause-took
returns-clause-took g c =
    let t = c.in-Err-Fault.ensures.took in
    let still = fault-here t.0 c.take_head.new.buffer (g.S.Source.left c.take_head.new.source) c.in-Err-Fault.field-0 c.in-Err-Fault.field-0-is t.2 in
    (t.0, t.1, unfinished-open t.0 still)
