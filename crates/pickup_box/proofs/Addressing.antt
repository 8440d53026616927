-- The addresses of fields that stand alone are those of their message.
use Rattle.std.proofs.Common.{◌≡◌, ℕ, Bool, true, false, cond, List, [], ◌∷◌, ◌++◌, refl, ap, ◌∙◌, sym, subst}
use Rattle.std.specs.Prelude.{map, filter, Option, Some, None, Result, Err, codes}
use Rattle.std.specs.List.{flat_map}
use Rattle.std.specs.Option.{option_map}
use Rattle.mail_message.specs.Message.{Mail, is_named, value_of, text}
use Rattle.mail_message.specs.Edits.{remove_field}
use Rattle.mail_submission.specs.Submission.{Submitted}
use Rattle.pickup_box.specs.declared.pickup.PickupBad.{PickupBad}
use Rattle.pickup_box.specs.declared.pickup.PickupBad.TheVariants as bad
use Rattle.pickup_box.specs.Addresses.{addresses}
use Rattle.pickup_box.specs.Header.{alone, addresses_in, all_addresses}
use Rattle.pickup_box.specs.PickupOf.{addresses_of, keys_of, senders_of, recipients_of, sent, addressed, submitted, Gives}

pub all-alone : (name : List ℕ) (raws : List (List ℕ)) → all_addresses name (map alone raws) ≡ flat_map addresses (map value_of (filter (is_named name) raws))
all-alone name [] = refl
all-alone name (raw ∷ raws) = by_name (is_named name raw) ∙ ap (λ more. cond (is_named name raw) (addresses (value_of raw) ++ more) more) (all-alone name raws) ∙ onto_first (is_named name raw)
  where
    by_name : (t : Bool) → addresses_in (option_map value_of (cond t (Some raw) None)) ++ all_addresses name (map alone raws) ≡ cond t (addresses (value_of raw) ++ all_addresses name (map alone raws)) (all_addresses name (map alone raws))
    by_name true = refl
    by_name false = refl

    onto_first : (t : Bool) → cond t (addresses (value_of raw) ++ flat_map addresses (map value_of (filter (is_named name) raws))) (flat_map addresses (map value_of (filter (is_named name) raws))) ≡ flat_map addresses (map value_of (cond t (raw ∷ filter (is_named name) raws) (filter (is_named name) raws)))
    onto_first true = refl
    onto_first false = refl

pub same_senders : (m : Mail) (fields : List Mail) → fields ≡ map alone m.fields → keys_of (all_addresses (codes "Sender") fields ++ all_addresses (codes "From") fields) ≡ senders_of m
same_senders m fields e =
    ap (λ fs. keys_of (all_addresses (codes "Sender") fs ++ all_addresses (codes "From") fs)) e
    ∙ ap (λ a. keys_of (a ++ all_addresses (codes "From") (map alone m.fields))) (all-alone (codes "Sender") m.fields)
    ∙ ap (λ a. keys_of (addresses_of (codes "Sender") m ++ a)) (all-alone (codes "From") m.fields)

pub same_recipients : (m : Mail) (fields : List Mail) → fields ≡ map alone m.fields → keys_of (all_addresses (codes "To") fields ++ (all_addresses (codes "Cc") fields ++ all_addresses (codes "Bcc") fields)) ≡ recipients_of m
same_recipients m fields e =
    ap (λ fs. keys_of (all_addresses (codes "To") fs ++ (all_addresses (codes "Cc") fs ++ all_addresses (codes "Bcc") fs))) e
    ∙ ap (λ a. keys_of (a ++ (all_addresses (codes "Cc") (map alone m.fields) ++ all_addresses (codes "Bcc") (map alone m.fields)))) (all-alone (codes "To") m.fields)
    ∙ ap (λ a. keys_of (addresses_of (codes "To") m ++ (a ++ all_addresses (codes "Bcc") (map alone m.fields)))) (all-alone (codes "Cc") m.fields)
    ∙ ap (λ a. keys_of (addresses_of (codes "To") m ++ (addresses_of (codes "Cc") m ++ a))) (all-alone (codes "Bcc") m.fields)

no_senders : (e : PickupBad) (mark : List ℕ) (senders recipients : Option (List (List ℕ))) (bytes : List ℕ) → Gives {T = List (List ℕ)} (Err e) senders → Gives {T = Submitted} (Err e) (addressed mark senders recipients bytes)
no_senders bad.Bad mark senders recipients bytes h = ap (λ o. addressed mark o recipients bytes) h
no_senders bad.NoMemory mark senders recipients bytes h = tt

no_recipients : (e : PickupBad) (mark : List ℕ) (senders recipients : Option (List (List ℕ))) (found : List (List ℕ)) (bytes : List ℕ) → senders ≡ Some found → Gives {T = List (List ℕ)} (Err e) recipients → Gives {T = Submitted} (Err e) (addressed mark senders recipients bytes)
no_recipients bad.Bad mark senders recipients found bytes s h = ap (λ o. addressed mark o recipients bytes) s ∙ ap (λ o. addressed mark (Some found) o bytes) h
no_recipients bad.NoMemory mark senders recipients found bytes s h = tt

pub unsent : (e : PickupBad) (mark : List ℕ) (m : Mail) (fields : List Mail) → fields ≡ map alone m.fields → Gives {T = List (List ℕ)} (Err e) (keys_of (all_addresses (codes "Sender") fields ++ all_addresses (codes "From") fields)) → Gives {T = Submitted} (Err e) (submitted mark m)
unsent e mark m fields all h =
    no_senders e mark (senders_of m) (recipients_of m) (text (remove_field (codes "Bcc") m)) (subst (Gives {T = List (List ℕ)} (Err e)) (same_senders m fields all) h)

pub unaddressed : (e : PickupBad) (mark : List ℕ) (m : Mail) (fields : List Mail) (senders : List (List ℕ)) → fields ≡ map alone m.fields → keys_of (all_addresses (codes "Sender") fields ++ all_addresses (codes "From") fields) ≡ Some senders → Gives {T = List (List ℕ)} (Err e) (keys_of (all_addresses (codes "To") fields ++ (all_addresses (codes "Cc") fields ++ all_addresses (codes "Bcc") fields))) → Gives {T = Submitted} (Err e) (submitted mark m)
unaddressed e mark m fields senders all from h =
    no_recipients e mark (senders_of m) (recipients_of m) senders (text (remove_field (codes "Bcc") m)) (sym (same_senders m fields all) ∙ from) (subst (Gives {T = List (List ℕ)} (Err e)) (same_recipients m fields all) h)

pub is_sent : (result : Result Submitted PickupBad) (mark : List ℕ) (m : Mail) (fields : List Mail) (senders recipients : List (List ℕ)) (bytes : List ℕ) → fields ≡ map alone m.fields → keys_of (all_addresses (codes "Sender") fields ++ all_addresses (codes "From") fields) ≡ Some senders → keys_of (all_addresses (codes "To") fields ++ (all_addresses (codes "Cc") fields ++ all_addresses (codes "Bcc") fields)) ≡ Some recipients → bytes ≡ text (remove_field (codes "Bcc") m) → Gives result (sent mark senders recipients bytes) → Gives result (submitted mark m)
is_sent result mark m fields senders recipients bytes all from to left h =
    let whole = text (remove_field (codes "Bcc") m) in
    subst (Gives result)
    (ap (sent mark senders recipients) left ∙ sym (ap (λ o. addressed mark o (recipients_of m) whole) (sym (same_senders m fields all) ∙ from) ∙ ap (λ o. addressed mark (Some senders) o whole) (sym (same_recipients m fields all) ∙ to)))
    h
