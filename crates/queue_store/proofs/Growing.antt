-- What an image stands for when a history or a shelf grows.
use Rattle.std.proofs.Common.{◌≡◌, ◌⊎◌, ℕ, List, [], ◌∷◌, ◌++◌, refl, ◌∙◌, sym, subst, inl, inr, arith, length-append, Result, Ok, Err}
use Rattle.std.proofs.lemmas.List.{get_or_append_left}
use Rattle.std.proofs.lemmas.List.Quantifiers.{Any-push}
use Rattle.mail_names.specs.declared.name.ItemName.{ItemName}
use Rattle.log_entry.specs.declared.entry.Entry.{Entry}
use Rattle.log_entry.specs.declared.entry.Entry.TheVariants as entries
use Rattle.plant_dev.specs.declared.plant.Stored.{Stored}
use Rattle.plant_dev.specs.declared.plant.ShelfFault.{ShelfFault}
use Rattle.plant_dev.specs.declared.plant.ShelfFault.TheVariants as faults
use Rattle.plant_dev.specs.Shelf.{Has, HasNoNameTwice, Puts, PutBy}
use Rattle.plant_dev.proofs.Offered.{no_name_twice_more}
use Rattle.hub_core.specs.Setup.{Setup}
use Rattle.hub_core.specs.declared.queue.QueuedItem.{QueuedItem}
use Rattle.hub_core.specs.Items.{items, Among, IsDelivered, IsStep}
use Rattle.hub_core.proofs.Offered.{older, history-push}
use Rattle.queue_store.specs.Stands.{IsShelfOf, IsWithin, IsShelved, stored_of, item_from}
use Rattle.queue_store.specs.Ready.{IsTrueOf}

within_older : (setup : Setup) (h : List Entry) (e : Entry) (shelf : List Stored) → IsWithin setup h shelf → IsWithin setup (h ++ e ∷ []) shelf
within_older setup h e [] within = tt
within_older setup h e (stored ∷ shelf) within = (older setup h e (item_from stored) within.0, within_older setup h e shelf within.1)

shelved_older : (setup : Setup) (h : List Entry) (e : Entry) (name : ItemName) (shelf : List Stored) → IsShelved setup h name shelf → IsShelved setup (h ++ e ∷ []) name shelf
shelved_older setup h e name shelf s = record { item = s.item; among = older setup h e s.item s.among; named = s.named; there = s.there }

delivered_push : (h : List Entry) (e : Entry) (name : ItemName) → IsDelivered name (h ++ e ∷ []) → IsDelivered name h ⊎ IsDelivered name (e ∷ [])
delivered_push [] e name d = inr d
delivered_push (entries.Delivered other ∷ h) e name (inl same) = inl (inl same)
delivered_push (entries.Delivered other ∷ h) e name (inr d) = elim (delivered_push h e name d) [ inl a ↦ inl (inr a) | inr b ↦ inr b ]
delivered_push (entries.Organised directory rules ∷ h) e name d = delivered_push h e name d
delivered_push (entries.Accepted m s ∷ h) e name d = delivered_push h e name d
delivered_push (entries.Categorised n r p ∷ h) e name d = delivered_push h e name d
delivered_push (entries.Decided approval by verdict m ∷ h) e name d = delivered_push h e name d
delivered_push (entries.Moment m ∷ h) e name d = delivered_push h e name d
delivered_push (entries.Delayed n ∷ h) e name d = delivered_push h e name d
delivered_push (entries.Ended n ∷ h) e name d = delivered_push h e name d
delivered_push (entries.Forgot n ∷ h) e name d = delivered_push h e name d

delivered_one : (setup : Setup) (h : List Entry) (e : Entry) (name : ItemName) (shelf : List Stored) → IsTrueOf setup h e shelf → IsDelivered name (e ∷ []) → IsShelved setup h name shelf
delivered_one setup h (entries.Delivered other) name shelf told (inl same) = subst (λ (n : ItemName). IsShelved setup h n shelf) (sym same) told
delivered_one setup h (entries.Delivered other) name shelf told (inr none) = absurd none
delivered_one setup h (entries.Organised directory rules) name shelf told d = absurd d
delivered_one setup h (entries.Accepted m s) name shelf told d = absurd d
delivered_one setup h (entries.Categorised n r p) name shelf told d = absurd d
delivered_one setup h (entries.Decided approval by verdict m) name shelf told d = absurd d
delivered_one setup h (entries.Moment m) name shelf told d = absurd d
delivered_one setup h (entries.Delayed n) name shelf told d = absurd d
delivered_one setup h (entries.Ended n) name shelf told d = absurd d
delivered_one setup h (entries.Forgot n) name shelf told d = absurd d

delivered_all : (setup : Setup) (h : List Entry) (e : Entry) (name : ItemName) (shelf : List Stored) → ((name : ItemName) → IsDelivered name h → IsShelved setup h name shelf) → IsTrueOf setup h e shelf →
    IsDelivered name (h ++ e ∷ []) → IsShelved setup (h ++ e ∷ []) name shelf
delivered_all setup h e name shelf all told d =
    shelved_older setup h e name shelf (elim (delivered_push h e name d) [ inl a ↦ all name a | inr b ↦ delivered_one setup h e name shelf told b ])

delivered_all_by : (setup : Setup) (h : List Entry) (e : Entry) (shelf : List Stored) → ((name : ItemName) → IsDelivered name h → IsShelved setup h name shelf) → IsTrueOf setup h e shelf →
    (name : ItemName) → IsDelivered name (h ++ e ∷ []) → IsShelved setup (h ++ e ∷ []) name shelf
delivered_all_by setup h e shelf all told name d = delivered_all setup h e name shelf all told d

-- one entry more, over the same shelf
pub shelf-push : (setup : Setup) (h : List Entry) (e : Entry) (shelf : List Stored) → IsShelfOf setup h shelf → IsStep setup h e → IsTrueOf setup h e shelf → IsShelfOf setup (h ++ e ∷ []) shelf
shelf-push setup h e shelf stands step told = record {
  history = history-push setup h e stands.history step;
  within = within_older setup h e shelf stands.within;
  once = stands.once;
  delivered = delivered_all_by setup h e shelf stands.delivered told;
}

within_more : (setup : Setup) (h : List Entry) (x : QueuedItem) (shelf : List Stored) → IsWithin setup h shelf → Among x (items setup h) → IsWithin setup h (shelf ++ stored_of x ∷ [])
within_more setup h x [] within among = (among, tt)
within_more setup h x (stored ∷ shelf) within among = (within.0, within_more setup h x shelf within.1 among)

has_more : (folder : List ℕ) (name : ItemName) (shelf : List Stored) (item : Stored) → Has folder name shelf → Has folder name (shelf ++ item ∷ [])
has_more folder name shelf item (k, x, below, at, is) =
    (k, x, omega (arith, below, length-append shelf (item ∷ [])), get_or_append_left shelf (item ∷ []) x k below ∙ at, is)

has_last : (shelf : List Stored) (item : Stored) → Has item.folder item.name (shelf ++ item ∷ [])
has_last shelf item = Any-push (λ (i : Stored). (i.folder ≡ item.folder) × (i.name ≡ item.name)) shelf item (refl, refl)

-- a put that succeeded
pub has-put : (item : Stored) (old after : List Stored) → Puts item old after → Has item.folder item.name after
has-put item old after (inl there) = subst (λ (shelf : List Stored). Has item.folder item.name shelf) (sym there.1) there.0
has-put item old after (inr comes) = subst (λ (shelf : List Stored). Has item.folder item.name shelf) (sym comes.1) (has_last old item)

keeps_has : (item : Stored) (old after : List Stored) (folder : List ℕ) (name : ItemName) → Puts item old after → Has folder name old → Has folder name after
keeps_has item old after folder name (inl there) has = subst (λ (shelf : List Stored). Has folder name shelf) (sym there.1) has
keeps_has item old after folder name (inr comes) has = subst (λ (shelf : List Stored). Has folder name shelf) (sym comes.1) (has_more folder name old item has)

keeps_within : (setup : Setup) (h : List Entry) (x : QueuedItem) (old after : List Stored) → Among x (items setup h) → Puts (stored_of x) old after → IsWithin setup h old → IsWithin setup h after
keeps_within setup h x old after among (inl there) within = subst (λ (shelf : List Stored). IsWithin setup h shelf) (sym there.1) within
keeps_within setup h x old after among (inr comes) within = subst (λ (shelf : List Stored). IsWithin setup h shelf) (sym comes.1) (within_more setup h x old within among)

keeps_once : (item : Stored) (old after : List Stored) → Puts item old after → HasNoNameTwice old → HasNoNameTwice after
keeps_once item old after (inl there) once = subst HasNoNameTwice (sym there.1) once
keeps_once item old after (inr comes) once = no_name_twice_more old after item comes.0 comes.1 once

-- a prescribed item was put
pub shelf-put : (setup : Setup) (h : List Entry) (x : QueuedItem) (old after : List Stored) → IsShelfOf setup h old → Among x (items setup h) → Puts (stored_of x) old after → IsShelfOf setup h after
shelf-put setup h x old after stands among puts = record {
  history = stands.history;
  within = keeps_within setup h x old after among puts stands.within;
  once = keeps_once (stored_of x) old after puts stands.once;
  delivered = λ name d. (let s = stands.delivered name d in
      record { item = s.item; among = s.among; named = s.named; there = keeps_has (stored_of x) old after s.item.folder s.item.name puts s.there });
}

-- a prescribed item was put, or wasn't, whatever was answered
pub shelf-put-by : (setup : Setup) (result : Result (Unit {0}) ShelfFault) (h : List Entry) (x : QueuedItem) (old after : List Stored) → IsShelfOf setup h old → Among x (items setup h) →
    PutBy result (stored_of x) old after → IsShelfOf setup h after
shelf-put-by setup (Ok done) h x old after stands among by = shelf-put setup h x old after stands among by
shelf-put-by setup (Err faults.Failed) h x old after stands among (inl kept) = subst (λ (shelf : List Stored). IsShelfOf setup h shelf) (sym kept) stands
shelf-put-by setup (Err faults.Failed) h x old after stands among (inr puts) = shelf-put setup h x old after stands among puts
shelf-put-by setup (Err faults.NoMemory) h x old after stands among kept = subst (λ (shelf : List Stored). IsShelfOf setup h shelf) (sym kept) stands
