-- What the approvals behind a place tell, told one by one.
use Rattle.std.proofs.Common.{◌≡◌, ℕ, ◌+◌, ◌<◌, ◌≤◌, List, [], ◌++◌, length, get_or, drop, ap, ◌∙◌, sym, append_assoc}
use Rattle.std.proofs.lemmas.List.{append-nil, at_drop_more, at_drop_all}
use Rattle.hub_core.specs.declared.asking.Asking.{Asking}
use Rattle.hub_core.specs.declared.queue.QueuedItem.{QueuedItem}
use Rattle.hub_core.specs.Setup.{Setup}
use Rattle.hub_core.specs.Approvals.{Stage, asks_in}
use Rattle.hub_core.specs.Mail.{LiveMail}
use Rattle.hub_core.specs.Ending.{approval_name, run_out_told, asks_told, stages_told, all_told}

-- what was told, with one more in front of the rest
joined : (told one rest whole new all : List QueuedItem) → told ++ whole ≡ all → whole ≡ one ++ rest → new ≡ told ++ one → new ++ rest ≡ all
joined told one rest whole new all so_far splits more =
    ap (λ (xs : List QueuedItem). xs ++ rest) more ∙ append_assoc told one rest ∙ ap (λ (xs : List QueuedItem). told ++ xs) (sym splits) ∙ so_far

pub one_asked : (setup : Setup) (mail : LiveMail) (moment number release gate : ℕ) (asks : List Asking) (asking : Asking) (told new all : List QueuedItem) →
    gate < length asks → asking ≡ get_or asks gate asking →
    told ++ asks_told setup mail moment number release gate (drop gate asks) ≡ all →
    new ≡ told ++ run_out_told setup (approval_name number release gate) mail asking moment →
    new ++ asks_told setup mail moment number release (gate + 1) (drop (gate + 1) asks) ≡ all
one_asked setup mail moment number release gate asks asking told new all within at so_far more =
    joined told (run_out_told setup (approval_name number release gate) mail asking moment) (asks_told setup mail moment number release (gate + 1) (drop (gate + 1) asks))
    (asks_told setup mail moment number release gate (drop gate asks)) new all so_far
    (at_drop_more (asks_told setup mail moment number release gate) asks gate asking within
    ∙ ap (λ (a : Asking). run_out_told setup (approval_name number release gate) mail a moment ++ asks_told setup mail moment number release (gate + 1) (drop (gate + 1) asks)) (sym at))
    more

pub one_stage : (setup : Setup) (mail : LiveMail) (moment number release : ℕ) (stages : List Stage) (stage : Stage) (told new all : List QueuedItem) →
    release < length stages → stage ≡ get_or stages release stage →
    told ++ stages_told setup mail moment number release (drop release stages) ≡ all →
    new ≡ told ++ asks_told setup mail moment number release 0 (asks_in stage) →
    new ++ stages_told setup mail moment number (release + 1) (drop (release + 1) stages) ≡ all
one_stage setup mail moment number release stages stage told new all within at so_far more =
    joined told (asks_told setup mail moment number release 0 (asks_in stage)) (stages_told setup mail moment number (release + 1) (drop (release + 1) stages))
    (stages_told setup mail moment number release (drop release stages)) new all so_far
    (at_drop_more (stages_told setup mail moment number release) stages release stage within
    ∙ ap (λ (s : Stage). asks_told setup mail moment number release 0 (asks_in s) ++ stages_told setup mail moment number (release + 1) (drop (release + 1) stages)) (sym at))
    more

pub one_mail : (setup : Setup) (moment place : ℕ) (lives : List LiveMail) (mail : LiveMail) (told new all : List QueuedItem) →
    place < length lives → mail ≡ get_or lives place mail →
    told ++ all_told setup moment (place + 1) (drop place lives) ≡ all →
    new ≡ told ++ stages_told setup mail moment (place + 1) 0 mail.stages →
    new ++ all_told setup moment ((place + 1) + 1) (drop (place + 1) lives) ≡ all
one_mail setup moment place lives mail told new all within at so_far more =
    joined told (stages_told setup mail moment (place + 1) 0 mail.stages) (all_told setup moment ((place + 1) + 1) (drop (place + 1) lives))
    (all_told setup moment (place + 1) (drop place lives)) new all so_far
    (at_drop_more (all_told setup moment (place + 1)) lives place mail within
    ∙ ap (λ (m : LiveMail). stages_told setup m moment (place + 1) 0 m.stages ++ all_told setup moment ((place + 1) + 1) (drop (place + 1) lives)) (sym at))
    more

-- nothing is left
pub none_left : {X : Type 0} (f : List X → List QueuedItem) (xs : List X) (place : ℕ) (told all : List QueuedItem) →
    f [] ≡ [] → length xs ≤ place → told ++ f (drop place xs) ≡ all → told ≡ all
none_left f xs place told all empty end so_far =
    sym (append-nil told) ∙ ap (λ (ys : List QueuedItem). told ++ ys) (sym empty ∙ sym (at_drop_all f xs place end)) ∙ so_far
