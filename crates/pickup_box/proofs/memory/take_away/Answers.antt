use Rattle.std.proofs.Common.{◌≡◌, List, rules, not, sym, subst}
use Rattle.std.specs.Prelude.{bytes_eq}
use Rattle.std.proofs.lemmas.Fn.{filter_same}
use Rattle.pickup_box.specs.Folder.{File, without, HasNoNameTwice, Removes}
use Rattle.pickup_box.proofs.Filing.{removes-without, distinct-without}
use Rattle.pickup_box.proofs.memory.take_away.Goals as goal

pub returns-clause-files : goal.returns-clause-files
returns-clause-files c = filter_same _ (λ (f : File). not (bytes_eq f.0 c.args.name.now)) _ (λ x b f h. search rules) _ _ c.retain.ensures.filtered

pub returns-clause-removes : goal.returns-clause-removes
returns-clause-removes c =
    let is : c.retain.new.self.items ≡ without c.args.name.now c.args.files.now.items = filter_same _ (λ (f : File). not (bytes_eq f.0 c.args.name.now)) _ (λ x b f h. search rules) _ _ c.retain.ensures.filtered in
    subst (λ (fs : List File). Removes c.args.name.now c.args.files.now.items fs) (sym is) (removes-without c.args.name.now c.args.files.now.items)

pub returns-clause-distinct : goal.returns-clause-distinct
returns-clause-distinct c h =
    let is : c.retain.new.self.items ≡ without c.args.name.now c.args.files.now.items = filter_same _ (λ (f : File). not (bytes_eq f.0 c.args.name.now)) _ (λ x b f h. search rules) _ _ c.retain.ensures.filtered in
    subst HasNoNameTwice (sym is) (distinct-without c.args.name.now c.args.files.now.items h)
