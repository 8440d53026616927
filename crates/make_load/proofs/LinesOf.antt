-- Lines with their ends are cut into these lines.
use Rattle.std.proofs.Common.{◌≡◌, ◌∙◌, ◌==◌, ℕ, Bool, true, false, not, refl, sym, ap, List, [], ◌∷◌, ◌++◌, append_assoc}
use Rattle.std.specs.Prelude.{◌&&◌}
use Rattle.std.specs.List.{list_all}
use Rattle.mail_names.specs.Lines.{Lines, lines_of, onto}
use Rattle.mail_message.specs.Lines.{crlf, ended_all}

-- no byte of the line is a CR
abbrev pub is_plain : List ℕ → Bool
is_plain line = list_all (λ b. not (b == 13)) line

parts : (a b : Bool) → (a && b) ≡ true → (a ≡ true) × (b ≡ true)
parts true b h = (refl, h)
parts false b h = cc

no_return : (is : Bool) → not is ≡ true → is ≡ false
no_return true h = sym h
no_return false h = refl

abbrev Cut : List ℕ → List ℕ → Type 0
Cut line rest = lines_of (line ++ 13 ∷ 10 ∷ rest) ≡ record { lines = line ∷ (lines_of rest).lines; left = (lines_of rest).left }

cut_one : (b : ℕ) (rest : List ℕ) → (b == 13) ≡ false → Cut (b ∷ []) rest
unfolding lines_of
cut_one b rest e = rw e

cut_more : (b c : ℕ) (line rest : List ℕ) → (b == 13) ≡ false → Cut (c ∷ line) rest → Cut (b ∷ c ∷ line) rest
unfolding lines_of
cut_more b c line rest e more = rw e (ap (λ (l : Lines). onto b l.lines l.left) more)

-- a line, and then the lines of the rest
cut : (line rest : List ℕ) → is_plain line ≡ true → Cut line rest
unfolding lines_of
cut [] rest h = refl
cut (b ∷ []) rest h = cut_one b rest (no_return (b == 13) (parts _ _ h).0)
cut (b ∷ c ∷ line) rest h =
    let here = parts _ _ h in
    cut_more b c line rest (no_return (b == 13) here.0) (cut (c ∷ line) rest here.1)

pub lines_of-ended : (lines : List (List ℕ)) → list_all is_plain lines ≡ true → lines_of (ended_all lines) ≡ record { lines = lines; left = [] }
unfolding lines_of
lines_of-ended [] h = refl
lines_of-ended (line ∷ lines) h =
    let here = parts _ _ h in
    ap lines_of (append_assoc line crlf (ended_all lines))
    ∙ cut line (ended_all lines) here.0
    ∙ ap (λ (l : Lines). record { lines = line ∷ l.lines; left = l.left }) (lines_of-ended lines here.1)
