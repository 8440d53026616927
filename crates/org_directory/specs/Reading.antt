-- The directory that the records of a file read to, or its first fault.
use Rattle.std.specs.Prelude.{◌≡◌, ℕ, ◌+◌, ◌==◌, nat_lt, Bool, false, not, ◌&&◌, ◌||◌, if◌then◌else◌, List, [], ◌∷◌, ◌++◌, length, map, position, slice_get, sum_by, unwrap_or, is_some, Option, Some, None, Result, Ok, Err}
use Rattle.std.specs.List.{list_all, list_any}
use Rattle.std.specs.Str.{bytes_eq}
use Rattle.csv.specs.Reading.{default_config, records, strip_bom}
use Rattle.org_directory.specs.Register.{Register, among, is_group}
use Rattle.org_directory.specs.Lines.{columns_of, has_none, line_of}
use Rattle.org_directory.specs.declared.draft.Draft.{Draft}
use Rattle.org_directory.specs.declared.draft.Line.{Line}
use Rattle.org_directory.specs.declared.draft.Line.TheVariants as lines
use Rattle.org_directory.specs.declared.fault.DirectoryFault.{DirectoryFault}
use Rattle.org_directory.specs.declared.fault.DirectoryFault.TheVariants as faults
use Rattle.org_directory.specs.declared.object.Object.{Object}

-- how many records were read, how many columns the header has, and what they say
pub record Taken : Type 0 where
  pub rows : ℕ
  pub columns : ℕ
  pub domains : List (List ℕ)
  pub drafts : List Draft

abbrev pub none_taken : Taken
none_taken = record { rows = 0; columns = 0; domains = []; drafts = [] }

abbrev pub keys_of : List Draft → List (List ℕ)
keys_of drafts = map (λ d. d.key) drafts

-- the member entries of one object; a forward counts as one
abbrev pub entries_in : Draft → ℕ
entries_in d = length d.members + length d.forward

-- the member entries
abbrev pub entries_of : List Draft → ℕ
entries_of drafts = sum_by entries_in drafts

-- One record of the first pass: BadRow where it hasn't the form, TooMany past 20,000 objects or 200,000 member entries,
-- DoubleKey where its key or domain stood before.
abbrev pub take_line : Taken → ℕ → Option Line → Result Taken DirectoryFault
take_line t row None = Err (faults.BadRow row)
take_line t row (Some (lines.Domain name)) =
    if among name t.domains then Err (faults.DoubleKey row) else Ok (record t { rows = row; domains = t.domains ++ name ∷ [] })
take_line t row (Some (lines.Object d)) =
    if nat_lt 20000 (length t.drafts + 1) || nat_lt 200000 (entries_of t.drafts + entries_in d) then Err (faults.TooMany row)
    else (if among d.key (keys_of t.drafts) then Err (faults.DoubleKey row) else Ok (record t { rows = row; drafts = t.drafts ++ d ∷ [] }))

-- The first record is the header, and says how many columns there are.
abbrev pub begun : Taken → Option ℕ → Result Taken DirectoryFault
begun t None = Err (faults.BadRow 1)
begun t (Some columns) = Ok (record t { rows = 1; columns = columns })

abbrev pub take_row : Taken → List (List ℕ) → Result Taken DirectoryFault
take_row t fields =
    if t.rows == 0 then begun t (columns_of fields)
    else take_line t (t.rows + 1) (line_of t.columns (t.rows + 1) fields)

-- the rest of the pass, where there was no fault
abbrev pub and_then : {X Y : Type 0} → Result X DirectoryFault → (X → Result Y DirectoryFault) → Result Y DirectoryFault
and_then (Ok t) more = more t
and_then (Err e) more = Err e

-- The first pass takes one record after another, up to its first fault. A file has a header.
abbrev pub first_pass : Taken → List (List (List ℕ)) → Result Taken DirectoryFault
first_pass t [] = if t.rows == 0 then Err (faults.BadRow 1) else Ok t
first_pass t (fields ∷ rows) = and_then (take_row t fields) (λ u. first_pass u rows)

-- the place of a key among the objects' keys
abbrev pub place_in : List (List ℕ) → List ℕ → Option ℕ
place_in named key = position (bytes_eq key) named

-- each of the keys is an object's
abbrev pub are_known : List (List ℕ) → List (List ℕ) → Bool
are_known named keys = list_all (λ key. is_some (place_in named key)) keys

-- whether there is a draft, and it is a group's
abbrev pub is_group_in : Option Draft → Bool
is_group_in None = false
is_group_in (Some d) = is_group d.kind

-- whether a group's draft stands at the place, where there is a place
abbrev pub group_at : List Draft → Option ℕ → Bool
group_at drafts None = false
group_at drafts (Some p) = is_group_in (slice_get drafts p)

-- whether a key is that of a group
abbrev pub names_group : List Draft → List ℕ → Bool
names_group drafts key = group_at drafts (place_in (keys_of drafts) key)

-- every key that it names is an object's, and no moderator is a group
abbrev pub names_well : List Draft → Draft → Bool
names_well drafts d =
    are_known (keys_of drafts) d.members && (are_known (keys_of drafts) d.owners && (are_known (keys_of drafts) d.moderators
    && (are_known (keys_of drafts) d.bypass && (not (list_any (names_group drafts) d.moderators) && are_known (keys_of drafts) d.forward))))

-- One object of the second pass: UnknownMember, or NoModerators where it is moderated and has none.
abbrev pub fault_of : List Draft → Draft → Option DirectoryFault
fault_of drafts d =
    if names_well drafts d then (if d.moderated && has_none d.moderators then Some (faults.NoModerators d.row) else None)
    else Some (faults.UnknownMember d.row)

abbrev pub or_else : Option DirectoryFault → Option DirectoryFault → Option DirectoryFault
or_else (Some e) later = Some e
or_else None later = later

-- the first fault of these objects, in the order of their records
abbrev pub second_pass : List Draft → List Draft → Option DirectoryFault
second_pass drafts [] = None
second_pass drafts (d ∷ ds) = or_else (fault_of drafts d) (second_pass drafts ds)

-- A key that is no object's would stand at 0, but the second pass refuses it.
abbrev pub place_or_0 : List (List ℕ) → List ℕ → ℕ
place_or_0 named key = unwrap_or (place_in named key) 0

-- the first of these places
abbrev pub first_place : List ℕ → Option ℕ
first_place [] = None
first_place (p ∷ ps) = Some p

-- the object, with places for keys
abbrev pub placed : List (List ℕ) → Draft → Object
placed named d = record {
  key = d.key;
  kind = d.kind;
  members = map (place_or_0 named) d.members;
  owners = map (place_or_0 named) d.owners;
  moderated = d.moderated;
  moderators = map (place_or_0 named) d.moderators;
  bypass = map (place_or_0 named) d.bypass;
  tell = d.tell;
  forward = first_place (map (place_or_0 named) d.forward);
  keep = d.keep;
}

-- the directory, unless there is a fault
abbrev pub unless_fault : Option DirectoryFault → Register → Result Register DirectoryFault
unless_fault (Some e) reg = Err e
unless_fault None reg = Ok reg

-- the second pass, over what the first one took
abbrev pub both_passes : Taken → Result Register DirectoryFault
both_passes t = unless_fault (second_pass t.drafts t.drafts) (record { domains = t.domains; objects = map (placed (keys_of t.drafts)) t.drafts })

-- The directory of a text, over its records as csv reads them with its default settings.
abbrev pub register_of : List ℕ → Result Register DirectoryFault
register_of text =
    if nat_lt 16777216 (length text) then Err (faults.BadRow 1)
    else and_then (first_pass none_taken (records default_config (strip_bom text))) both_passes

-- A fault is the one that reading gives, but want of memory may come at any time.
abbrev pub Fails : {X : Type 0} → DirectoryFault → Result X DirectoryFault → Type 0
Fails faults.NoMemory read = Unit {0}
Fails e read = read ≡ Err e

-- What a call answers is what reading gives, unless memory ran out.
abbrev pub Gives : {X : Type 0} → Result X DirectoryFault → Result X DirectoryFault → Type 0
Gives (Ok x) read = read ≡ Ok x
Gives (Err e) read = Fails e read
