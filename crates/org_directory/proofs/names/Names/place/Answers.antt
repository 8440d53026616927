use Rattle.std.proofs.Common.{ℕ, sym, ◌∙◌, ap}
use Rattle.std.specs.Prelude.{position}
use Rattle.std.specs.Str.{bytes_eq}
use Rattle.std.specs.declared.alloc.Global.{Global}
use Rattle.std.specs.declared.vec.Vec.{Vec}
use Rattle.org_directory.proofs.Mapped.{position-map}
use Rattle.org_directory.proofs.names.Names.place.Goals as goal

pub returns-clause-place : goal.returns-clause-place
returns-clause-place c =
    c.get_index_of.ensures.index
    ∙ (sym (position-map (bytes_eq c.args.name.now) (λ (v : Vec ℕ Global). v.items) c.self.inside.index.keys)
    ∙ ap (position (bytes_eq c.args.name.now)) c.self.view_is)
