-- How a text is found without a look at all of them.
use Rattle.std.specs.Prelude.{◌≡◌, ◌<◌, ℕ, Bool, true, false, if◌then◌else◌, List, length, slice_get, bytes_eq, Option, Some, None}
use Rattle.std.specs.Ordering.{nat_cmp}
use Rattle.std.specs.Cmp.Lexicographic.{slice_cmp}
use Rattle.std.specs.BTreeMap.{BTreeMap, get}
use Rattle.sha2.specs.Sha256.{sha256}
use Rattle.rule_engine.specs.Run.{is_text, place_of}

-- the place that an index has for a digest
abbrev pub place_at : BTreeMap (List ℕ) ℕ → List ℕ → Option ℕ
place_at index digest = get (slice_cmp nat_cmp) index digest

-- the place that was found, or else the next one, if that is a hit
abbrev pub found_or : Option ℕ → Bool → ℕ → Option ℕ
found_or (Some place) hit next = Some place
found_or None hit next = if hit then Some next else None

-- whether what stands there is this text
abbrev pub stands_at : Option (List ℕ) → List ℕ → Bool
stands_at None text = false
stands_at (Some other) text = bytes_eq text other

-- The text stands first at this place.
pub record StandsFirst (texts : List (List ℕ)) (text : List ℕ) (place : ℕ) : Type 0 where
  pub there : is_text texts text ≡ true
  pub first : place_of texts text ≡ place

-- A place of the texts. Where the text stands there, it is its first.
pub record Leads (texts : List (List ℕ)) (text : List ℕ) (place : ℕ) : Type 0 where
  pub within : place < length texts
  pub first : stands_at (slice_get texts place) text ≡ true → StandsFirst texts text place

-- Where there is no place, the text isn't there.
abbrev pub LeadsTo : Option ℕ → List (List ℕ) → List ℕ → Type 0
LeadsTo None texts text = is_text texts text ≡ false
LeadsTo (Some place) texts text = Leads texts text place

-- The index has a place for the digest of each text that is there.
abbrev pub IsIndex : BTreeMap (List ℕ) ℕ → List (List ℕ) → Type 0
IsIndex index texts = (text : List ℕ) → LeadsTo (place_at index (sha256 text)) texts text
