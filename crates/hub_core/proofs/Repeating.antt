-- What repeats a submission has its digest.
use Rattle.std.proofs.Common.{◌≡◌, ℕ, ◌+◌, Bool, true, false, cond, List, [], ◌∷◌, ◌++◌, length, Option, Some, None, refl, ap, ◌∙◌, sym}
use Rattle.std.specs.Prelude.{◌&&◌, ◌||◌, map, slice_get, bytes_eq, fold}
use Rattle.std.specs.List.{position_from}
use Rattle.std.specs.Cmp.Lexicographic.{pointwise}
use Rattle.std.specs.BTreeMap.{BTreeMap}
use Rattle.std.proofs.lemmas.Iterator.Adapters.{position_from-zero}
use Rattle.std.proofs.lemmas.Slice.Eq.{bytes_eq-Decides}
use Rattle.mail_submission.specs.Submission.{Submitted, option_eq, same_mark, same_submission, has_message_id}
use Rattle.mail_submission.specs.declared.submission.Origin.{Origin}
use Rattle.mail_submission.specs.declared.submission.Origin.TheVariants as origins
use Rattle.hub_core.specs.Mail.{LiveMail}
use Rattle.hub_core.specs.Standing.{place_of_same}
use Rattle.hub_core.specs.Repeats.{chained, path_octets, digest_under, digest_from, digest_of, is_digest, has_digest, found_or, place_at, IsIndex, repeats_at}
use Rattle.hub_core.proofs.Room.{submission_of}
use Rattle.hub_core.proofs.First.{position-none, position-agrees, position-never, position-push}

true≢false : true ≡ false → ⊥
true≢false e = cc

some≢none : (a : List ℕ) → Some a ≡ None → ⊥
some≢none a e = cc

both : (a b : Bool) → (a && b) ≡ true → (a ≡ true) × (b ≡ true)
both true b h = (refl, h)
both false b h = absurd cc

bytes_are : (a b : List ℕ) → bytes_eq a b ≡ true → a ≡ b
bytes_are a b e = (bytes_eq-Decides a b).0 e

path_is : (a b : Option (List ℕ)) → option_eq a b ≡ true → a ≡ b
path_is None None e = refl
path_is None (Some b) e = absurd (true≢false (sym e))
path_is (Some a) None e = absurd (true≢false (sym e))
path_is (Some a) (Some b) e = ap (λ (k : List ℕ). Some k) (bytes_are a b e)

keys_are : (a b : List (List ℕ)) → pointwise bytes_eq a b ≡ true → a ≡ b
keys_are [] [] e = refl
keys_are [] (y ∷ ys) e = absurd (true≢false (sym e))
keys_are (x ∷ xs) [] e = absurd (true≢false (sym e))
keys_are (x ∷ xs) (y ∷ ys) e =
    let parts = both _ _ e in
    let head = bytes_are x y parts.0 in
    let rest = keys_are xs ys parts.1 in
    λ i. head i ∷ rest i

under_is : (m : List ℕ) (a b : Submitted) → a.reverse ≡ b.reverse → a.recipients ≡ b.recipients → a.bytes ≡ b.bytes → digest_under m a ≡ digest_under m b
under_is m a b path keys bytes = λ i. chained (chained (fold chained (chained [] (path_octets (path i))) (keys i)) m) (bytes i)

marks_are : (p q : Origin) (a b : Submitted) → ((m : List ℕ) → digest_under m a ≡ digest_under m b) → same_mark p q ≡ true → digest_from p a ≡ digest_from q b
marks_are origins.Smtp q a b under e = absurd (true≢false (sym e))
marks_are (origins.Pickup m) origins.Smtp a b under e = absurd (true≢false (sym e))
marks_are (origins.Pickup m) (origins.Pickup n) a b under e =
    ap (λ (d : List ℕ). Some d) (under m ∙ ap (λ (k : List ℕ). digest_under k b) (bytes_are m n e))

digests_are : (t u : Bool) (a b : Submitted) → t ≡ u → ((m : List ℕ) → digest_under m a ≡ digest_under m b) → (t || same_mark a.origin b.origin) ≡ true →
    cond t (Some (digest_under [] a)) (digest_from a.origin a) ≡ cond u (Some (digest_under [] b)) (digest_from b.origin b)
digests_are true true a b same under e = ap (λ (d : List ℕ). Some d) (under [])
digests_are true false a b same under e = absurd (true≢false same)
digests_are false true a b same under e = absurd (true≢false (sym same))
digests_are false false a b same under e = marks_are a.origin b.origin a b under e

has_one : (p q : Origin) (t : Bool) (b : Submitted) → (t || same_mark p q) ≡ true → cond t (Some (digest_under [] b)) (digest_from q b) ≡ None → ⊥
has_one p q true b e none = some≢none _ none
has_one origins.Smtp q false b e none = true≢false (sym e)
has_one (origins.Pickup m) origins.Smtp false b e none = true≢false (sym e)
has_one (origins.Pickup m) (origins.Pickup n) false b e none = some≢none _ none

record Same (a b : Submitted) : Type 0 where
  path : a.reverse ≡ b.reverse
  keys : a.recipients ≡ b.recipients
  bytes : a.bytes ≡ b.bytes
  again : (has_message_id a.bytes || same_mark a.origin b.origin) ≡ true

same_is : (a b : Submitted) → same_submission a b ≡ true → Same a b
same_is a b e =
    let one = both _ _ e in
    let two = both _ _ one.1 in
    let three = both _ _ two.1 in
    record { path = path_is a.reverse b.reverse one.0; keys = keys_are a.recipients b.recipients two.0; bytes = bytes_are a.bytes b.bytes three.0; again = three.1 }

-- what repeats a submission has its digest
repeat_digest : (a b : Submitted) → same_submission a b ≡ true → digest_of a ≡ digest_of b
repeat_digest a b e =
    let s = same_is a b e in
    digests_are (has_message_id a.bytes) (has_message_id b.bytes) a b (ap has_message_id s.bytes) (λ m. under_is m a b s.path s.keys s.bytes) s.again

-- what has no digest repeats nothing
no_repeat : (a b : Submitted) → digest_of b ≡ None → same_submission a b ≡ true → ⊥
no_repeat a b none e =
    let s = same_is a b e in
    has_one a.origin b.origin (has_message_id b.bytes) b (ap (λ (bytes : List ℕ). has_message_id bytes || same_mark a.origin b.origin) (sym s.bytes) ∙ s.again) none

narrower : (s : Submitted) (digest : List ℕ) → digest_of s ≡ Some digest → (live : LiveMail) → same_submission live.submission s ≡ true → has_digest digest live ≡ true
narrower s digest own live e = ap (is_digest digest) (repeat_digest live.submission s e ∙ own) ∙ (bytes_eq-Decides digest digest).1 refl

pub place-without : (s : Submitted) (lives : List LiveMail) → digest_of s ≡ None → place_of_same s lives ≡ None
place-without s lives none = position-never (λ (live : LiveMail). same_submission live.submission s) lives (λ live e. no_repeat live.submission s none e)

pub place-missed : (s : Submitted) (index : BTreeMap (List ℕ) ℕ) (lives : List LiveMail) (digest : List ℕ) → IsIndex index lives → digest_of s ≡ Some digest → place_at index digest ≡ None → place_of_same s lives ≡ None
place-missed s index lives digest indexed own none =
    position-none (λ (live : LiveMail). same_submission live.submission s) (has_digest digest) lives (narrower s digest own) (sym (indexed digest) ∙ none)

stands : (o : Option LiveMail) (s : Submitted) → repeats_at o s ≡ true → (live : LiveMail) × (o ≡ Some live) × (same_submission live.submission s ≡ true)
stands None s e = absurd (true≢false (sym e))
stands (Some live) s e = (live, refl, e)

pub place-hit : (s : Submitted) (index : BTreeMap (List ℕ) ℕ) (lives : List LiveMail) (digest : List ℕ) (place : ℕ) → IsIndex index lives → digest_of s ≡ Some digest → place_at index digest ≡ Some place →
    repeats_at (slice_get lives place) s ≡ true → place_of_same s lives ≡ Some place
place-hit s index lives digest place indexed own at again =
    let there = stands (slice_get lives place) s again in
    position-agrees (λ (live : LiveMail). same_submission live.submission s) (has_digest digest) lives place there.0 (narrower s digest own) there.1 there.2 (sym (indexed digest) ∙ at)

by_submissions : (digest : List ℕ) (k : ℕ) (live : List LiveMail) → position_from (has_digest digest) k live ≡ position_from (λ s. is_digest digest (digest_of s)) k (map submission_of live)
by_submissions digest k [] = refl
by_submissions digest k (mail ∷ live) =
    ap (λ rest. cond (has_digest digest mail) (Some k) rest) (by_submissions digest (k + 1) live)

-- an index stays one as long as the submissions stay
pub index-same : (index : BTreeMap (List ℕ) ℕ) (live live' : List LiveMail) → map submission_of live ≡ map submission_of live' → IsIndex index live → IsIndex index live'
index-same index live live' same indexed = λ digest.
    indexed digest ∙ position_from-zero (has_digest digest) live ∙ by_submissions digest 0 live
    ∙ ap (position_from (λ s. is_digest digest (digest_of s)) 0) same ∙ sym (by_submissions digest 0 live')
    ∙ sym (position_from-zero (has_digest digest) live')

-- an index with the place of one submission more
pub index-pushed : (old new : BTreeMap (List ℕ) ℕ) (lives : List LiveMail) (live : LiveMail) → IsIndex old lives →
    ((digest : List ℕ) → place_at new digest ≡ found_or (place_at old digest) (is_digest digest (digest_of live.submission)) (length lives)) → IsIndex new (lives ++ live ∷ [])
index-pushed old new lives live indexed noted = λ digest.
    noted digest ∙ ap (λ o. found_or o (has_digest digest live) (length lives)) (indexed digest) ∙ sym (position-push (has_digest digest) lives live)
