-- Which releases there are, of all that the types of their fields may hold.
use Rattle.std.specs.Prelude.{⊤, ℕ, List}
use Rattle.mail_names.specs.Key.{IsKey}
use Rattle.mail_names.specs.declared.gate.Gate.{Gate}
use Rattle.mail_names.specs.declared.gate.Gate.TheVariants as gates
use Rattle.mail_names.specs.declared.name.ItemName.{ItemName}
use Rattle.mail_names.specs.declared.route.Step.{Step}
use Rattle.journal_report.specs.declared.why.Why.{Why}
use Rattle.journal_report.specs.declared.why.Why.TheVariants as whys
use Rattle.mail_plan.specs.declared.release.Item.{Item}
use Rattle.mail_plan.specs.declared.release.Hold.{Hold}
use Rattle.mail_plan.specs.declared.release.End.{End}
use Rattle.mail_plan.specs.declared.release.End.TheVariants as ends
use Rattle.mail_plan.specs.declared.release.Release.{Release}
use Rattle.mail_submission.specs.Fits.{IsU32, IsU64, IsBytes, IsListOf}

pub record IsName (name : ItemName) : Type 0 where
  pub submission : IsU64 name.submission
  pub release : IsU32 name.release
  pub place : IsU32 name.place

abbrev pub IsGate : Gate → Type 0
IsGate (gates.Object key) = IsKey key
IsGate (gates.Rule place) = IsU32 place

abbrev pub IsStep : Step → Type 0
IsStep step = IsKey step.key

abbrev pub IsWhy : Why → Type 0
IsWhy whys.Direct = ⊤
IsWhy (whys.Via groups) = IsListOf IsKey groups
IsWhy (whys.Copied rule) = IsU32 rule
IsWhy (whys.Redirected rule) = IsU32 rule
IsWhy (whys.Through steps) = IsListOf IsStep steps

pub record IsItem (item : Item) : Type 0 where
  pub name : IsName item.name
  pub folder : IsKey item.folder
  pub why : IsWhy item.why
  pub text : IsU32 item.text

pub record IsHold (hold : Hold) : Type 0 where
  pub gate : IsGate hold.gate
  pub label : IsBytes hold.label
  pub moderators : IsListOf IsKey hold.moderators

abbrev pub IsRejected : ℕ × List (List ℕ) → Type 0
IsRejected rejected = IsU32 rejected.0 × IsListOf IsKey rejected.1

abbrev pub IsEnd : End → Type 0
IsEnd (ends.Rejected rule keys) = IsRejected (rule, keys)
IsEnd (ends.Unknown keys) = IsListOf IsKey keys
IsEnd ends.TooMany = ⊤

pub record IsRelease (release : Release) : Type 0 where
  pub texts : IsListOf IsBytes release.texts
  pub items : IsListOf IsItem release.items
  pub holds : IsListOf IsHold release.holds
  pub ends : IsListOf IsEnd release.ends
