-- The plain listing, step by step.
use Rattle.std.specs.Prelude.{◌≡◌, ◌≢◌, ◌<◌, ◌-◌, ◌+◌, ℕ, zero, suc, Bool, true, false, not, ◌||◌, List, [], ◌∷◌, ◌++◌, drop, get_or, length, refl}
use Rattle.std.proofs.Common.{sym, ◌∙◌, ap, arith, drop-cons}
use Rattle.std.specs.List.{flat_map}
use Rattle.std.specs.Str.{bytes_eq}
use Rattle.org_directory.specs.Register.{Register, among, key_at, keys_at}
use Rattle.group_expand.specs.Routes.{kept, keys_of}
use Rattle.group_expand.specs.Ways.{Web, fresh, first_of_each, here, ways}
use Rattle.group_expand.specs.declared.way.Way.{Way}

pub no-room : (web : Web) (room : ℕ) (passed : List (List ℕ)) (key : List ℕ) → room ≡ 0 → ways web room passed key ≡ []
unfolding ways
no-room web zero passed key e = refl
no-room web (suc room) passed key e = absurd (cc e)

pub passed-by : (web : Web) (room : ℕ) (passed : List (List ℕ)) (key : List ℕ) → among key passed ≡ true → ways web room passed key ≡ []
unfolding ways
passed-by web zero passed key e = refl
passed-by web (suc room) passed key e = rw e refl

pub goes-on-from : (web : Web) (room : ℕ) (passed : List (List ℕ)) (key : List ℕ) → room ≢ 0 → among key passed ≡ false
    → here (web.is_end key) passed key ++ flat_map (ways web (room - 1) (passed ++ key ∷ [])) (web.next key) ≡ ways web room passed key
unfolding ways
goes-on-from web zero passed key some new = absurd (some refl)
goes-on-from web (suc room) passed key some new =
    let less : suc room - 1 ≡ room = omega arith in
    ap (λ r. here (web.is_end key) passed key ++ flat_map (ways web r (passed ++ key ∷ [])) (web.next key)) less ∙ sym (rw new refl)

-- the next member
pub member-first : (reg : Register) (ps : List ℕ) (i p : ℕ) (f : List ℕ → List Way) → p ≡ get_or ps i 0 → i < length ps
    → flat_map f (keys_at reg (drop i ps)) ≡ f (key_at reg p) ++ flat_map f (keys_at reg (drop (i + 1) ps))
member-first reg ps i p f is h =
    let next : suc i ≡ i + 1 = omega arith in
    let one : drop i ps ≡ get_or ps i 0 ∷ drop (suc i) ps = drop-cons ps i 0 h in
    let first : drop i ps ≡ p ∷ drop (i + 1) ps = cc (one, is, next) in
    ap (λ xs. flat_map f (keys_at reg xs)) first

-- the first of each end, with one more way
or-swap : (a b c : Bool) → ((a || b) || c) ≡ (b || (a || c))
or-swap true true c = refl
or-swap true false c = refl
or-swap false true c = refl
or-swap false false c = refl

fresh-last : (had : List ℕ → Bool) (ws : List Way) (w : Way) → fresh had (ws ++ w ∷ []) ≡ fresh had ws ++ kept (not (had w.key || among w.key (keys_of (fresh had ws)))) w
fresh-last had [] w = by_test (had w.key) refl
  where
    by_test : (b : Bool) → had w.key ≡ b → fresh had (w ∷ []) ≡ kept (not (had w.key || false)) w
    by_test true e = rw e refl
    by_test false e = rw e refl
fresh-last had (x ∷ xs) w = by_test (λ f. fresh-last f xs w) (had x.key) refl
  where
    by_test : ((f : List ℕ → Bool) → fresh f (xs ++ w ∷ []) ≡ fresh f xs ++ kept (not (f w.key || among w.key (keys_of (fresh f xs)))) w) → (b : Bool) → had x.key ≡ b
        → fresh had ((x ∷ xs) ++ w ∷ []) ≡ fresh had (x ∷ xs) ++ kept (not (had w.key || among w.key (keys_of (fresh had (x ∷ xs))))) w
    by_test again true e = rw e (again had)
    by_test again false e =
        rw e (ap (λ ws. x ∷ ws) (again (λ k. bytes_eq k x.key || had k)
        ∙ ap (λ b. fresh (λ k. bytes_eq k x.key || had k) xs ++ kept (not b) w)
        (or-swap (bytes_eq w.key x.key) (had w.key) (among w.key (keys_of (fresh (λ k. bytes_eq k x.key || had k) xs))))))

pub first-more : (first new : List Way) (ws : List Way) (w : Way) → first ≡ first_of_each ws → new ≡ first ++ kept (not (among w.key (keys_of first))) w
    → new ≡ first_of_each (ws ++ w ∷ [])
first-more first new ws w is e = e ∙ (ap (λ f. f ++ kept (not (among w.key (keys_of f))) w) is ∙ sym (fresh-last (λ k. false) ws w))
