-- What the first pass keeps.
use Rattle.std.specs.Prelude.{◌≡◌, ◌≤◌, ℕ, false, [], length, slice_get, Some, Result, Ok, Err}
use Rattle.org_directory.specs.Register.{is_group, is_mailbox}
use Rattle.org_directory.specs.Reading.{Taken, entries_in, entries_of, keys_of, place_in, Fails}
use Rattle.org_directory.specs.declared.draft.Draft.{Draft}
use Rattle.org_directory.specs.declared.draft.Drafts.{Drafts}
use Rattle.org_directory.specs.declared.fault.DirectoryFault.{DirectoryFault}

-- what the drafts say of the records read so far
abbrev pub taken_of : Drafts → Taken
taken_of d = record { rows = d.rows; columns = d.columns; domains = d.domains; drafts = d.drafts }

-- A group alone has members, and a mailbox alone forwards.
pub record Fits (d : Draft) : Type 0 where
  pub groups_alone : is_group d.kind ≡ false → d.members ≡ []
  pub mailboxes_alone : is_mailbox d.kind ≡ false → d.forward ≡ []

-- The keys and the count are those of the objects, which keep the limits and stand each at the first place of its key.
pub record IsKept (d : Drafts) : Type 0 where
  pub keys : d.keys ≡ keys_of d.drafts
  pub entries : d.entries ≡ entries_of d.drafts
  pub few : length d.drafts ≤ 20000
  pub few_entries : d.entries ≤ 200000
  pub once : (p : ℕ) (x : Draft) → slice_get d.drafts p ≡ Some x → place_in (keys_of d.drafts) x.key ≡ Some p
  pub fitting : (p : ℕ) (x : Draft) → slice_get d.drafts p ≡ Some x → Fits x
  pub each_few : (p : ℕ) (x : Draft) → slice_get d.drafts p ≡ Some x → entries_in x ≤ 200000

-- What was taken is what the definition takes, or memory ran out.
abbrev pub Takes : {U : Type 0} → Result U DirectoryFault → Result Taken DirectoryFault → Taken → Type 0
Takes (Ok u) given new = given ≡ Ok new
Takes (Err e) given new = Fails e given

-- What a call answers is what the first pass takes, unless memory ran out.
abbrev pub TakesAll : Result Drafts DirectoryFault → Result Taken DirectoryFault → Type 0
TakesAll (Ok d) given = given ≡ Ok (taken_of d)
TakesAll (Err e) given = Fails e given
