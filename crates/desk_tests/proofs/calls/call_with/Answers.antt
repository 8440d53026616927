use Rattle.std.proofs.Common.{ℕ, refl, subst}
use Rattle.desk_turns.proofs.Offered.{begun_leads, called}
use Rattle.desk_turns.specs.Calls.{Called}
use Rattle.desk_tests.specs.Calls.{IsCall}
use Rattle.desk_tests.specs.Tray.{Does}
use Rattle.desk_tests.specs.declared.deed.Deed.{Deed}
use Rattle.desk_tests.proofs.calls.call_with.Goals as goal

pub end_call-requires-clause-did : goal.end_call-requires-clause-did
end_call-requires-clause-did g c =
    let deed : Deed = record { ask = c.args.ask; reply = c.answer-reply.result } in
    (c.in-Ok.tray, deed, begun_leads Does c.args.token.now.me c.begin.new.token.me c.in-Ok.tray c.in-Ok.ensures.begun, c.answer-reply.ensures.does, (refl, refl, refl))

pub returns-clause-called : goal.returns-clause-called
returns-clause-called g c =
    let told = called Does (IsCall c.begin.new.token.id c.args.ask c.answer-reply.result) c.args.token.now.me c.begin.new.token.me c.end_call.new.token.me c.in-Ok.tray c.answer-reply.new.self c.in-Ok.ensures.begun c.end_call.ensures.made in
    subst (λ (n : ℕ). Called Does (IsCall n c.args.ask c.answer-reply.result) c.args.token.now.me.0 c.end_call.new.token.me.0) c.begin.ensures.own.1 told
