use Rattle.std.proofs.Common.{◌≡◌, ◌∙◌, List, ℕ, ap}
use Rattle.journal_report.specs.declared.why.Why.{Why}
use Rattle.journal_report.specs.declared.parts.Line.{Line}
use Rattle.journal_report.proofs.Told.{told_err, is_key, reads_target, reads_why}
use Rattle.journal_report.proofs.reading.target.Goals as goal

same_line : (target : List ℕ) (why : Why) (line : Line) → target ≡ line.target → why ≡ line.why → record { target = target; why = why } ≡ line
same_line target why line p q = ap (λ (t : List ℕ). let l : Line = record { target = t; why = why } in l) p ∙ ap (λ (w : Why). let l : Line = record { target = line.target; why = w } in l) q

pub returns-in-Ok-why : goal.returns-in-Ok-why
returns-in-Ok-why c = λ line fits e.
    (let front = reads_target c.args.text.now c.behind-text.result.now c.before_space.result.now line e fits c.behind-text.ensures c.before_space.ensures in
    let back = reads_why c.args.text.now c.behind-text.result.now c.from_space.result.now line e fits c.behind-text.ensures c.from_space.ensures in
    same_line c.in-Ok.target c.in-Ok-why.why line (c.in-Ok.ensures (is_key c.before_space.result.now line.target front fits.target) ∙ front) (c.in-Ok-why.ensures line.why fits.why back))

pub returns-in-Err-why : goal.returns-in-Err-why
returns-in-Err-why c = λ line fits e.
    (let back = reads_why c.args.text.now c.behind-text.result.now c.from_space.result.now line e fits c.behind-text.ensures c.from_space.ensures in
    told_err (λ (w : Why). w ≡ line.why) c.why.result c.in-Err-why.fault c.in-Err-why.is (c.why.ensures line.why fits.why back))

pub returns-in-Err : goal.returns-in-Err
returns-in-Err c = λ line fits e.
    (let front = reads_target c.args.text.now c.behind-text.result.now c.before_space.result.now line e fits c.behind-text.ensures c.before_space.ensures in
    told_err (λ (k : List ℕ). k ≡ c.before_space.result.now) c.key.result c.in-Err.fault c.in-Err.is (c.key.ensures (is_key c.before_space.result.now line.target front fits.target)))
