use Rattle.std.proofs.Common.{◌∷◌, [], ◌++◌, ◌∙◌, ap, codes, List, ℕ, rules}
use Rattle.std.specs.Prelude.{decimal}
use Rattle.make_load.specs.Load.{id_line}
use Rattle.make_load.proofs.Made.{added}
use Rattle.make_load.proofs.submissions.message.Goals as goal

-- the bytes with one more line
abbrev with_line : List ℕ → List ℕ → List ℕ
with_line text line = text ++ (line ++ 13 ∷ 10 ∷ [])

pub returns : goal.returns
returns c = added (id_line c.args.i) (codes "Subject: Load " ++ decimal c.args.i) (codes "Line " ++ decimal c.args.i)
    c.new-text.result c.add_line.new.self c.add_line-2.new.self c.add_line-3.new.self c.add_line-4.new.self (search rules)
    (c.in_ok-add_line.ensures.ok ∙ ap (with_line c.new-text.result) (c.as_slice.ensures ∙ c.in_ok-id.ensures))
    (c.in_ok-add_line-2.ensures.ok ∙ ap (with_line c.add_line.new.self) (c.as_slice-2.ensures ∙ c.in_ok-subject.ensures))
    (search rules)
    (c.in_ok-add_line-4.ensures.ok ∙ ap (with_line c.add_line-3.new.self) (c.as_slice-3.ensures ∙ c.in_ok-body.ensures))
