use Rattle.std.proofs.Common.{ℕ, sym, ◌∙◌, ap}
use Rattle.std.specs.List.{list_any}
use Rattle.std.specs.Str.{bytes_eq}
use Rattle.std.specs.declared.alloc.Global.{Global}
use Rattle.std.specs.declared.vec.Vec.{Vec}
use Rattle.org_directory.proofs.Mapped.{list_any-map}
use Rattle.org_directory.proofs.names.Names.has.Goals as goal

pub returns : goal.returns
returns c =
    c.contains.ensures
    ∙ (sym (list_any-map (bytes_eq c.args.name.now) (λ (v : Vec ℕ Global). v.items) c.self.inside.index.keys)
    ∙ ap (list_any (bytes_eq c.args.name.now)) c.self.view_is)
