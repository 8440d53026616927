use Rattle.std.proofs.Common.{ℕ, ◌∙◌, ap, ◌≡◌, ◌++◌, ◌∷◌, [], false, map}
use Rattle.std.specs.List.{list_any}
use Rattle.std.specs.Str.{bytes_eq}
use Rattle.std.specs.declared.alloc.Global.{Global}
use Rattle.std.specs.declared.vec.Vec.{Vec}
use Rattle.org_directory.proofs.Mapped.{map-insert_key}
use Rattle.org_directory.proofs.names.Names.push.Goals as goal

pub returns : goal.returns
returns c =
    let absent : list_any (bytes_eq c.args.name.now) (map (λ (v : Vec ℕ Global). v.items) c.self.inside.index.keys) ≡ false = ap (list_any (bytes_eq c.args.name.now)) c.self.view_is ∙ c.requires.new in
    map-insert_key (λ (v : Vec ℕ Global). v.items) c.self.inside.index.keys c.insert.new.self.keys c.in_ok-name.name c.args.name.now
    c.in_ok-name.ensures.items absent c.in_ok-insert.ensures.keys
    ∙ ap (λ keys. keys ++ c.args.name.now ∷ []) c.self.view_is
