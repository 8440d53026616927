-- A buffer that is filled piece by piece.
use Rattle.std.proofs.Common.{◌≡◌, ℕ, suc, zero-add, ◌+◌, ◌-◌, ◌≤◌, ◌<◌, List, [], ◌∷◌, ◌++◌, length, take, drop, Option, Err, refl, sym, ap, ◌∙◌, subst, arith, append_assoc, length-append}
use Rattle.std.proofs.lemmas.List.{append-nil, length-take, length-drop, take-append-le, take_all}
use Rattle.std.specs.Io.KnownBytes.{Consumes, Keeps, IsAtEnd}
use Rattle.port_io.proofs.Offered.{Consumes-twice, Consumes-nothing, Consumes-end, Consumes-kept}
use Rattle.admin_http.specs.Pieces.{Got, Full, Short, Filled}
use Rattle.admin_http.specs.declared.pieces.Dry.{Dry}
use Rattle.admin_http.specs.declared.pieces.Dry.TheVariants as dries
use borrow.Rule.Slice.PartMut.{put_mid, post_of}

take-front : (fs bs : List ℕ) (k : ℕ) → take (length fs + k) (fs ++ bs) ≡ fs ++ take k bs
take-front [] bs k = ap (λ (n : ℕ). take n bs) (zero-add k)
take-front (a ∷ fs) bs k =
    let e : suc (length fs) + k ≡ suc (length fs + k) = omega arith in
    rw e (ap (λ (t : List ℕ). a ∷ t) (take-front fs bs k))

pub take-mid : (at n count : ℕ) (xs ys : List ℕ) → at ≤ length xs → count ≤ length ys → take (at + count) (put_mid at n xs ys) ≡ take at xs ++ take count ys
take-mid at n count xs ys h k =
    let post = post_of at n xs in
    let size : at + count ≡ length (take at xs) + count = omega (arith, length-take at xs) in
    ap (λ (m : ℕ). take m (take at xs ++ (ys ++ post))) size ∙ take-front (take at xs) (ys ++ post) count ∙ ap (λ (t : List ℕ). take at xs ++ t) (take-append-le count ys post k)

pub mid-within : (at n count : ℕ) (xs ys : List ℕ) → at ≤ length xs → count ≤ length ys → at + count ≤ length (put_mid at n xs ys)
mid-within at n count xs ys h k = omega (arith, length-take at xs, length-append (take at xs) (ys ++ post_of at n xs), length-append ys (post_of at n xs))

-- what stands before the place stays
pub front-mid : (at n : ℕ) (xs ys : List ℕ) → at ≤ length xs → take at (put_mid at n xs ys) ≡ take at xs
front-mid at n xs ys h =
    let same : at + 0 ≡ at = omega arith in
    subst (λ (m : ℕ). take m (put_mid at n xs ys) ≡ take at xs) same (take-mid at n 0 xs ys h (omega arith) ∙ append-nil (take at xs))

-- what was copied to the front
pub take-start : (n : ℕ) (xs ys : List ℕ) → take (length ys) (put_mid 0 n xs ys) ≡ ys
take-start n xs ys =
    let size : length ys ≡ 0 + length ys = omega arith in
    ap (λ (m : ℕ). take m (put_mid 0 n xs ys)) size ∙ take-mid 0 n (length ys) xs ys (omega arith) (omega arith) ∙ take_all (length ys) ys (omega arith)

-- So far a buffer was filled from start to at.
pub record Filling (before left : Option (List ℕ)) (old now : List ℕ) (start at : ℕ) : Type 0 where
  pub piece : List ℕ
  pub took : Consumes before left piece
  pub stands : take at now ≡ take start old ++ piece
  pub size : start + length piece ≡ at

pub filling-start : (before : Option (List ℕ)) (old : List ℕ) (start : ℕ) → Filling before before old old start start
filling-start before old start = record { piece = []; took = Consumes-nothing before; stands = sym (append-nil (take start old)); size = omega arith }

pub filling-more : (before mid left : Option (List ℕ)) (old now ys : List ℕ) (start at n count : ℕ) → Filling before mid old now start at → at ≤ length now → count ≤ length ys
    → Consumes mid left (take count ys) → Filling before left old (put_mid at n now ys) start (at + count)
filling-more before mid left old now ys start at n count f h k took = record {
  piece = f.piece ++ take count ys;
  took = Consumes-twice before mid left f.piece (take count ys) f.took took;
  stands = take-mid at n count now ys h k ∙ ap (λ (x : List ℕ). x ++ take count ys) f.stands ∙ append_assoc (take start old) f.piece (take count ys);
  size = omega (arith, length-append f.piece (take count ys), length-take count ys, f.size);
}

pub filling-full : (before left : Option (List ℕ)) (old now : List ℕ) (start at : ℕ) → Filling before left old now start at → length now ≤ at → Full before left old now start
filling-full before left old now start at f h = record { piece = f.piece; took = f.took; is = sym (take_all at now h) ∙ f.stands }

pub filling-end : (before mid left : Option (List ℕ)) (old now ys : List ℕ) (start at size : ℕ) → Filling before mid old now start at → at < size
    → Consumes mid left (take 0 ys) → Short before left size start
filling-end before mid left old now ys start at size f h took =
    record { piece = f.piece; took = Consumes-end before mid left f.piece (take 0 ys) refl f.took took; few = omega (arith, f.size) }

pub filling-kept : (before mid left : Option (List ℕ)) (old now : List ℕ) (start at size : ℕ) → Filling before mid old now start at → at < size
    → Keeps mid left → Short before left size start
filling-kept before mid left old now start at size f h keeps =
    record { piece = f.piece; took = Consumes-kept before mid left f.piece f.took keeps; few = omega (arith, f.size) }

pub got-mid : (before left : Option (List ℕ)) (old ys : List ℕ) (at n count : ℕ) → at ≤ length old → count ≤ length ys → Consumes before left (take count ys)
    → Got before left old (put_mid at n old ys) at count
got-mid before left old ys at n count h k took =
    record { piece = take count ys; size = omega (arith, length-take count ys); took = took; stands = take-mid at n count old ys h k }

-- which end it was
pub filled-end : (before left : Option (List ℕ)) (old new : List ℕ) (start : ℕ) (dry : Dry) → dry ≡ dries.End → Filled before left old new start (Err dry)
    → Short before left (length old) start × IsAtEnd left
filled-end before left old new start dry e h = subst (λ (d : Dry). Filled before left old new start (Err d)) e h

pub filled-fault : (before left : Option (List ℕ)) (old new : List ℕ) (start : ℕ) (dry : Dry) → dry ≡ dries.Fault → Filled before left old new start (Err dry)
    → Short before left (length old) start
filled-fault before left old new start dry e h = subst (λ (d : Dry). Filled before left old new start (Err d)) e h

pub short-size : (before left : Option (List ℕ)) (size size' start : ℕ) → Short before left size start → size ≡ size' → Short before left size' start
short-size before left size size' start h e = record { piece = h.piece; took = h.took; few = omega (arith, h.few, e) }

-- a slice from a place on
pub behind-is : (at : ℕ) (text : List ℕ) → take (length text - at) (drop at text) ≡ drop at text
behind-is at text = take_all (length text - at) (drop at text) (omega (arith, length-drop at text))
