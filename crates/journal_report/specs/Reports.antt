-- Which reports there are.
use Rattle.std.specs.Prelude.{⊤, ◌≡◌, ℕ, ◌^◌, ◌<◌, ◌==◌, ◌&&◌, not, nat_le, nat_lt, Bool, true, false, List, [], ◌∷◌, length, IfSome, Result, Ok, Err}
use Rattle.std.specs.List.{list_all, AllByRecursion}
use Rattle.mail_names.specs.Dates.{last_moment}
use Rattle.mail_names.specs.Key.{IsKey}
use Rattle.mail_names.specs.Names.{IsItemName}
use Rattle.mail_names.specs.Steps.{has_forward}
use Rattle.mail_names.specs.declared.route.Step.{Step}
use Rattle.journal_report.specs.declared.why.Why.{Why}
use Rattle.journal_report.specs.declared.why.Why.TheVariants as whys
use Rattle.journal_report.specs.declared.parts.ReportHead.{ReportHead}
use Rattle.journal_report.specs.declared.parts.Line.{Line}
use Rattle.journal_report.specs.declared.reading.ReportFault.{ReportFault}
use Rattle.journal_report.specs.declared.reading.ReportFault.TheVariants as faults

-- no control byte
abbrev pub is_clean : List ℕ → Bool
is_clean text = list_all (λ b. nat_le 32 b && not (b == 127)) text

-- members come by a group, and by forwards where a mailbox forwarded
abbrev pub has_route : Why → Bool
has_route (whys.Via []) = false
has_route (whys.Via (root ∷ groups)) = true
has_route whys.Direct = true
has_route (whys.Copied rule) = true
has_route (whys.Redirected rule) = true
has_route (whys.Through steps) = has_forward steps

-- 1 to 2^32 - 1 targets, a moment by the last one, a clean id and subject
abbrev pub is_report : ReportHead → List Line → Bool
is_report head lines =
    nat_le head.moment last_moment && (is_clean head.message_id && (is_clean head.subject
    && (nat_lt 0 (length lines) && (nat_lt (length lines) (2 ^ 32) && list_all (λ line. has_route line.why) lines))))

-- what the types of a head's fields hold
pub record FitsHead (head : ReportHead) : Type 0 where
  pub name : IsItemName head.name
  pub mailbox : IsKey head.mailbox
  pub sender : IfSome head.sender IsKey

-- Steps of which none was forwarded are told as groups.
abbrev pub FitsWhy : Why → Type 0
FitsWhy whys.Direct = ⊤
FitsWhy (whys.Via groups) = AllByRecursion IsKey groups
FitsWhy (whys.Copied rule) = rule < 2 ^ 32
FitsWhy (whys.Redirected rule) = rule < 2 ^ 32
FitsWhy (whys.Through steps) = AllByRecursion (λ (s : Step). IsKey s.key) steps × (has_forward steps ≡ true)

-- and those of a line's
pub record FitsLine (line : Line) : Type 0 where
  pub target : IsKey line.target
  pub why : FitsWhy line.why

abbrev pub IsNoMemory : ReportFault → Type 0
IsNoMemory faults.NoMemory = ⊤
IsNoMemory faults.NotReport = ⊥

-- What a reader gives, where there is something to give: that, unless memory ran out.
abbrev pub Told : {X : Type 0} → (X → Type 0) → Result X ReportFault → Type 0
Told P (Ok x) = P x
Told P (Err e) = IsNoMemory e
