-- The index of texts.
use Rattle.std.proofs.Common.{◌≡◌, ◌<◌, ℕ, Bool, true, false, ◌||◌, List, [], ◌∷◌, ◌++◌, length, Option, Some, None, refl, sym, ◌∙◌, ap, subst, bytes_eq, arith, length-append}
use Rattle.std.specs.Prelude.{slice_get}
use Rattle.std.specs.List.{list_any}
use Rattle.std.specs.BTreeMap.{BTreeMap}
use Rattle.std.proofs.lemmas.List.{get_or_append_left}
use Rattle.std.proofs.lemmas.List.Folds.{list_any-append}
use Rattle.std.proofs.lemmas.Option.{slice_get-get_or}
use Rattle.std.proofs.lemmas.Slice.Eq.{bytes_eq-Decides}
use Rattle.std.proofs.Math.Seq.{get_or-append_seam}
use Rattle.sha2.specs.Sha256.{sha256}
use Rattle.rule_engine.specs.Run.{is_text}
use Rattle.rule_engine.specs.Index.{place_at, found_or, stands_at, StandsFirst, Leads, LeadsTo, IsIndex}
use Rattle.rule_engine.proofs.Placing.{place_of-append, place_of-new, is_text-new}

true≢false : true ≡ false → ⊥
true≢false e = cc

-- one text more: those before it stay where they are, and it comes last
get-before : (texts : List (List ℕ)) (new : List ℕ) (place : ℕ) → place < length texts → slice_get (texts ++ new ∷ []) place ≡ slice_get texts place
get-before texts new place within =
    let wide : place < length (texts ++ new ∷ []) = omega (arith, length-append texts (new ∷ [])) in
    slice_get-get_or (texts ++ new ∷ []) place [] wide
    ∙ ap (λ (t : List ℕ). Some t) (get_or_append_left texts (new ∷ []) [] place within)
    ∙ sym (slice_get-get_or texts place [] within)

get-last : (texts : List (List ℕ)) (new : List ℕ) → slice_get (texts ++ new ∷ []) (length texts) ≡ Some new
get-last texts new =
    let wide : length texts < length (texts ++ new ∷ []) = omega (arith, length-append texts (new ∷ [])) in
    slice_get-get_or (texts ++ new ∷ []) (length texts) [] wide
    ∙ ap (λ (t : List ℕ). Some t) (get_or-append_seam texts new [] [])

still-there : (texts : List (List ℕ)) (new text : List ℕ) → is_text texts text ≡ true → is_text (texts ++ new ∷ []) text ≡ true
still-there texts new text is = list_any-append (bytes_eq text) texts (new ∷ []) ∙ ap (λ b. b || list_any (bytes_eq text) (new ∷ [])) is

still-first : (texts : List (List ℕ)) (new text : List ℕ) (place : ℕ) → StandsFirst texts text place → StandsFirst (texts ++ new ∷ []) text place
still-first texts new text place h = record {
  there = still-there texts new text h.there;
  first = place_of-append texts (new ∷ []) text h.there ∙ h.first;
}

leads-pushed : (texts : List (List ℕ)) (new text : List ℕ) (place : ℕ) → Leads texts text place → Leads (texts ++ new ∷ []) text place
leads-pushed texts new text place h = record {
  within = let within : place < length texts = h.within in omega (arith, length-append texts (new ∷ []));
  first = λ stands. still-first texts new text place (h.first (ap (λ o. stands_at o text) (sym (get-before texts new place h.within)) ∙ stands));
}

new-first : (texts : List (List ℕ)) (new : List ℕ) → is_text texts new ≡ false → StandsFirst (texts ++ new ∷ []) new (length texts)
new-first texts new isnt = record { there = is_text-new texts new; first = place_of-new texts new isnt }

leads-new : (texts : List (List ℕ)) (new text : List ℕ) → is_text texts new ≡ false → Leads (texts ++ new ∷ []) text (length texts)
leads-new texts new text isnt = record {
  within = omega (arith, length-append texts (new ∷ []));
  first = λ stands.
      let same : text ≡ new = (bytes_eq-Decides text new).0 (ap (λ o. stands_at o text) (sym (get-last texts new)) ∙ stands) in
      subst (λ (t : List ℕ). StandsFirst (texts ++ new ∷ []) t (length texts)) (sym same) (new-first texts new isnt);
}

-- texts of two digests are two
differs : (new text : List ℕ) (same : Bool) → bytes_eq text new ≡ same → bytes_eq (sha256 new) (sha256 text) ≡ false → bytes_eq text new ≡ false
differs new text false is apart = is
differs new text true is apart =
    let equal : text ≡ new = (bytes_eq-Decides text new).0 is in
    absurd (true≢false (sym ((bytes_eq-Decides (sha256 new) (sha256 text)).1 (ap sha256 (sym equal))) ∙ apart))

missing : (texts : List (List ℕ)) (new text : List ℕ) → is_text texts text ≡ false → bytes_eq (sha256 new) (sha256 text) ≡ false → is_text (texts ++ new ∷ []) text ≡ false
missing texts new text isnt apart =
    list_any-append (bytes_eq text) texts (new ∷ []) ∙ ap (λ b. b || list_any (bytes_eq text) (new ∷ [])) isnt
    ∙ ap (λ b. b || false) (differs new text (bytes_eq text new) refl apart)

led : (texts : List (List ℕ)) (new text : List ℕ) (place : Option ℕ) (hit : Bool) → bytes_eq (sha256 new) (sha256 text) ≡ hit → is_text texts new ≡ false → LeadsTo place texts text →
    LeadsTo (found_or place hit (length texts)) (texts ++ new ∷ []) text
led texts new text (Some place) hit is isnt leads = leads-pushed texts new text place leads
led texts new text None true is isnt leads = leads-new texts new text isnt
led texts new text None false is isnt leads = missing texts new text leads is

-- an index with the place of one text more
pub index-pushed : (old new : BTreeMap (List ℕ) ℕ) (texts : List (List ℕ)) (text : List ℕ) → IsIndex old texts → is_text texts text ≡ false →
    ((digest : List ℕ) → place_at new digest ≡ found_or (place_at old digest) (bytes_eq (sha256 text) digest) (length texts)) → IsIndex new (texts ++ text ∷ [])
index-pushed old new texts text indexed isnt noted = λ other.
    subst (λ (place : Option ℕ). LeadsTo place (texts ++ text ∷ []) other) (sym (noted (sha256 other)))
    (led texts text other (place_at old (sha256 other)) (bytes_eq (sha256 text) (sha256 other)) refl isnt (indexed other))

pub index-missed : (index : BTreeMap (List ℕ) ℕ) (texts : List (List ℕ)) (digest text : List ℕ) → IsIndex index texts → digest ≡ sha256 text → place_at index digest ≡ None → is_text texts text ≡ false
index-missed index texts digest text indexed own none =
    subst (λ (place : Option ℕ). LeadsTo place texts text) (ap (place_at index) (sym own) ∙ none) (indexed text)

pub index-hit : (index : BTreeMap (List ℕ) ℕ) (texts : List (List ℕ)) (digest text : List ℕ) (place : ℕ) → IsIndex index texts → digest ≡ sha256 text → place_at index digest ≡ Some place →
    stands_at (slice_get texts place) text ≡ true → StandsFirst texts text place
index-hit index texts digest text place indexed own at stands =
    let leads : Leads texts text place = subst (λ (place : Option ℕ). LeadsTo place texts text) (ap (place_at index) (sym own) ∙ at) (indexed text) in
    leads.first stands
