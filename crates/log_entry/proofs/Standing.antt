-- Texts that stand one behind another.
use Rattle.std.proofs.Common.{◌≡◌, ℕ, ◌+◌, ◌≤◌, List, [], ◌++◌, length, take, drop, refl, sym, ◌∙◌, ap, subst, arith, append_assoc, length-append, length-drop}
use Rattle.std.proofs.lemmas.List.{take_at, drop_at, drop-drop, append-nil}
use Rattle.log_entry.specs.Reading.{Stands, OneForm}

-- the same up to any end
pub record There (text bytes : List ℕ) (at : ℕ) : Type 0 where
  pub end : ℕ
  pub stands : Stands text bytes at end

pub both : (a b bytes : List ℕ) (at mid end : ℕ) → Stands a bytes at mid → Stands b bytes mid end → Stands (a ++ b) bytes at end
both a b bytes at mid end first second = record {
  there = first.there ∙ ap (λ (l : List ℕ). a ++ l) second.there ∙ sym (append_assoc a b (drop end bytes));
  behind = omega (arith, first.behind, second.behind, length-append a b);
  within = second.within;
}

pub nothing : (bytes : List ℕ) (at : ℕ) → at ≤ length bytes → Stands [] bytes at at
nothing bytes at within = record { there = refl; behind = omega arith; within = within }

module _ (a b bytes : List ℕ) (at end : ℕ) (s : Stands (a ++ b) bytes at end) where
  rest : drop (at + length a) bytes ≡ b ++ drop end bytes
  rest =
      sym (drop-drop (length a) at bytes)
      ∙ ap (λ (l : List ℕ). drop (length a) l) (s.there ∙ append_assoc a b (drop end bytes))
      ∙ drop_at a (b ++ drop end bytes) (length a) refl

  pub front : Stands a bytes at (at + length a)
  front = record {
    there = s.there ∙ append_assoc a b (drop end bytes) ∙ ap (λ (l : List ℕ). a ++ l) (sym rest);
    behind = refl;
    within = omega (arith, s.behind, s.within, length-append a b);
  }

  pub back : (mid : ℕ) → mid ≡ at + length a → Stands b bytes mid end
  back mid is = record {
    there = ap (λ (n : ℕ). drop n bytes) is ∙ rest;
    behind = omega (arith, s.behind, is, length-append a b);
    within = s.within;
  }

-- the first of several that stand one behind another
pub first : (a b bytes : List ℕ) (at end : ℕ) → Stands (a ++ b) bytes at end → There a bytes at
first a b bytes at end s = record { end = at + length a; stands = front a b bytes at end s }

-- two values that stand at one place are one, and what is behind them is behind one place
module _ {A : Type 0} (Is : A → Type 0) (form : A → List ℕ) (one : OneForm Is form) where
  pub same : (a b : A) (rest bytes : List ℕ) (at mid end : ℕ) → Is a × Stands (form a) bytes at mid → Is b → Stands (form b ++ rest) bytes at end → b ≡ a
  same a b rest bytes at mid end got is s =
      (one b a (rest ++ drop end bytes) (drop mid bytes) is got.0 (sym (append_assoc (form b) rest (drop end bytes)) ∙ sym s.there ∙ got.1.there)).0

  pub behind : (a b : A) (rest bytes : List ℕ) (at mid end : ℕ) → Is a × Stands (form a) bytes at mid → Is b → Stands (form b ++ rest) bytes at end → Stands rest bytes mid end
  behind a b rest bytes at mid end got is s =
      back (form b) rest bytes at end s mid (got.1.behind ∙ ap (λ (x : A). at + length (form x)) (sym (same a b rest bytes at mid end got is s)))

-- one text of a length stands at a place
pub one_text : (a b bytes : List ℕ) (at mid end : ℕ) → length a ≡ length b → Stands a bytes at mid → Stands b bytes at end → a ≡ b
one_text a b bytes at mid end long s t =
    sym (take_at a (drop mid bytes) (length a) refl) ∙ ap (λ (l : List ℕ). take (length a) l) (sym s.there ∙ t.there) ∙ take_at b (drop end bytes) (length a) (sym long)

pub same_last : {A : Type 0} (Is : A → Type 0) (form : A → List ℕ) (one : OneForm Is form) (a b : A) (bytes : List ℕ) (at mid end : ℕ) → Is a × Stands (form a) bytes at mid → Is b → Stands (form b) bytes at end → b ≡ a
same_last Is form one a b bytes at mid end got is s =
    same Is form one a b [] bytes at mid end got is (subst (λ (t : List ℕ). Stands t bytes at end) (sym (append-nil (form b))) s)

-- Nothing is behind a value that was read, where all of the bytes are a value's form.
pub nothing_left : {A : Type 0} (Is : A → Type 0) (form : A → List ℕ) (one : OneForm Is form) (a b : A) (bytes : List ℕ) (end : ℕ) → Is a × Stands (form a) bytes 0 end → Is b → bytes ≡ form b → length bytes ≤ end
nothing_left Is form one a b bytes end got is all =
    let left : drop end bytes ≡ [] = (one a b (drop end bytes) [] got.0 is (sym got.1.there ∙ all ∙ sym (append-nil (form b)))).1 in
    omega (arith, ap length left, length-drop end bytes)
