-- Each form determines its value, and is no proper prefix of another's.
use Rattle.std.proofs.Common.{◌≡◌, inl, inr, ℕ, zero, suc, ◌<◌, ◌^◌, List, [], ◌∷◌, ◌++◌, length, take, drop, Option, Some, None, Ok, Err, refl, sym, ◌∙◌, ap, arith, append_assoc}
use Rattle.std.specs.Prelude.{⊤}
use Rattle.std.specs.List.{flat_map, AllByRecursion}
use Rattle.std.proofs.lemmas.List.{take_at, drop_at}
use Rattle.std.proofs.lemmas.Bool.{cases_lt, lt-ltb, le-ltb}
use Rattle.mail_names.specs.Key.{IsKey, key_of}
use Rattle.mail_names.specs.declared.key.NameFault.TheVariants as faults
use Rattle.mail_names.specs.declared.name.ApprovalName.{ApprovalName}
use Rattle.mail_names.specs.declared.name.ItemName.{ItemName}
use Rattle.mail_names.specs.Names.{IsApprovalName}
use Rattle.moderation.specs.declared.approval.Verdict.{Verdict}
use Rattle.moderation.specs.declared.approval.Verdict.TheVariants as verdicts
use Rattle.mail_names.specs.declared.name.Mark.{Mark}
use Rattle.mail_names.specs.declared.name.Mark.TheVariants as marks
use Rattle.journal_report.specs.declared.why.Why.{Why}
use Rattle.journal_report.specs.declared.why.Why.TheVariants as whys
use Rattle.log_entry.specs.EntryText.{le32, le64, form_bytes, form_key_option, form_all, form_mark, form_name, form_approval, form_kind, form_how, form_step, form_why, form_gate, form_item, form_tell, form_hold, form_end, form_release, form_origin, form_submission, form_verdict, entry_text}
use Rattle.mail_submission.specs.Fits.{IsU32, IsU64, IsBytes, IsKeyOption, IsListOf, IsOrigin, IsSubmission}
use Rattle.mail_plan.specs.Fits.{IsName, IsStep, IsWhy, IsGate, IsItem, IsHold, IsEnd, IsRelease}
use Rattle.log_entry.specs.Entries.{IsEntry}
use Rattle.log_entry.specs.Reading.{OneForm}
use Rattle.mail_submission.specs.Submission.{Submitted}
use Rattle.mail_submission.specs.declared.submission.Origin.{Origin}
use Rattle.mail_submission.specs.declared.submission.Origin.TheVariants as origins
use Rattle.mail_plan.specs.declared.release.Item.{Item}
use Rattle.mail_plan.specs.declared.release.ItemKind.{ItemKind}
use Rattle.mail_plan.specs.declared.release.ItemKind.TheVariants as kinds
use Rattle.mail_plan.specs.declared.release.Hold.{Hold}
use Rattle.mail_plan.specs.declared.release.End.{End}
use Rattle.mail_plan.specs.declared.release.End.TheVariants as ends
use Rattle.mail_plan.specs.declared.release.Release.{Release}
use Rattle.moderation.specs.declared.tell.Tell.{Tell}
use Rattle.moderation.specs.declared.tell.Tell.TheVariants as tells
use Rattle.mail_names.specs.declared.route.How.{How}
use Rattle.mail_names.specs.declared.route.How.TheVariants as hows
use Rattle.mail_names.specs.declared.route.Step.{Step}
use Rattle.mail_names.specs.declared.gate.Gate.{Gate}
use Rattle.mail_names.specs.declared.gate.Gate.TheVariants as gates
use Rattle.log_entry.specs.declared.entry.Entry.TheVariants as entries
use Rattle.log_entry.proofs.Numbers.{length-le32, length-le64, le32_same, le64_same}

-- lists of one length that begin the same
abbrev Split : List ℕ → List ℕ → List ℕ → List ℕ → Type 0
Split a b more rest = (a ≡ b) × (more ≡ rest)

split : (n : ℕ) (a b more rest : List ℕ) → length a ≡ n → length b ≡ n → a ++ more ≡ b ++ rest → Split a b more rest
split n a b more rest here there is = (
  sym (take_at a more n here) ∙ ap (λ (l : List ℕ). take n l) is ∙ take_at b rest n there,
  sym (drop_at a more n here) ∙ ap (λ (l : List ℕ). drop n l) is ∙ drop_at b rest n there,
)

-- a part, and what is behind it
parts : {A : Type 0} (Is : A → Type 0) (form : A → List ℕ) → OneForm Is form → (a b : A) (x y more rest : List ℕ) → Is a → Is b → (form a ++ x) ++ more ≡ (form b ++ y) ++ rest → (a ≡ b) × (x ++ more ≡ y ++ rest)
parts Is form one a b x y more rest here there is =
    one a b (x ++ more) (y ++ rest) here there (sym (append_assoc (form a) x more) ∙ is ∙ append_assoc (form b) y rest)

pub one_le32 : OneForm IsU32 le32
one_le32 a b more rest here there is =
    let s = split 4 (le32 a) (le32 b) more rest (length-le32 a) (length-le32 b) is in
    (le32_same a b here there s.0, s.1)

pub one_le64 : OneForm IsU64 le64
one_le64 a b more rest here there is =
    let s = split 8 (le64 a) (le64 b) more rest (length-le64 a) (length-le64 b) is in
    (le64_same a b here there s.0, s.1)

pub one_bytes : OneForm IsBytes form_bytes
one_bytes a b more rest here there is =
    let p = parts IsU64 le64 one_le64 (length a) (length b) a b more rest here there is in
    split (length b) a b more rest p.0 refl p.1

pub key_short : (key : List ℕ) → IsKey key → length key < 2 ^ 64
key_short key is =
    elim (cases_lt 254 (length key)) [
      | inl long ↦
          let bad : key_of key ≡ Err faults.TooLong = rw (le-ltb (length key) 3 (omega arith), lt-ltb 254 (length key) long) refl in
          let both : Err faults.TooLong ≡ Ok key = sym bad ∙ is in
          absurd (cc both)
      | inr short ↦ omega arith
    ]

pub one_key : OneForm IsKey form_bytes
one_key a b more rest here there is = one_bytes a b more rest (key_short a here) (key_short b there) is

pub one_key_option : OneForm IsKeyOption form_key_option
one_key_option None None more rest here there is = (refl, ap (λ (l : List ℕ). drop 1 l) is)
one_key_option None (Some b) more rest here there is = absurd (cc is)
one_key_option (Some a) None more rest here there is = absurd (cc is)
one_key_option (Some a) (Some b) more rest here there is =
    let p = one_key a b more rest here there (ap (λ (l : List ℕ). drop 1 l) is) in
    (ap (λ (k : List ℕ). Some k) p.0, p.1)

pub one_origin : OneForm IsOrigin form_origin
one_origin origins.Smtp origins.Smtp more rest here there is = (refl, ap (λ (l : List ℕ). drop 1 l) is)
one_origin origins.Smtp (origins.Pickup b) more rest here there is = absurd (cc is)
one_origin (origins.Pickup a) origins.Smtp more rest here there is = absurd (cc is)
one_origin (origins.Pickup a) (origins.Pickup b) more rest here there is =
    let p = one_bytes a b more rest here there (ap (λ (l : List ℕ). drop 1 l) is) in
    (ap (λ (k : List ℕ). origins.Pickup k) p.0, p.1)

mark_of : List ℕ → Mark
mark_of [] = marks.Plain
mark_of (zero ∷ bytes) = marks.Plain
mark_of (suc zero ∷ bytes) = marks.Gate
mark_of (suc (suc zero) ∷ bytes) = marks.Delay
mark_of (suc (suc (suc n)) ∷ bytes) = marks.Failure

mark_back : (m : Mark) (more : List ℕ) → mark_of (form_mark m ++ more) ≡ m
unfolding mark_of
mark_back marks.Plain more = refl
mark_back marks.Gate more = refl
mark_back marks.Delay more = refl
mark_back marks.Failure more = refl

mark_behind : (m : Mark) (more : List ℕ) → drop 1 (form_mark m ++ more) ≡ more
mark_behind marks.Plain more = refl
mark_behind marks.Gate more = refl
mark_behind marks.Delay more = refl
mark_behind marks.Failure more = refl

abbrev pub IsMark : Mark → Type 0
IsMark m = ⊤

pub one_mark : OneForm IsMark form_mark
one_mark a b more rest here there is = (
  sym (mark_back a more) ∙ ap mark_of is ∙ mark_back b rest,
  sym (mark_behind a more) ∙ ap (λ (l : List ℕ). drop 1 l) is ∙ mark_behind b rest,
)

same_name : (a b : ItemName) → a.submission ≡ b.submission → a.release ≡ b.release → a.place ≡ b.place → a.mark ≡ b.mark → a ≡ b
same_name a b submission release place mark =
    ap (λ (x : ℕ). record { submission = x; release = a.release; place = a.place; mark = a.mark }) submission
    ∙ ap (λ (x : ℕ). record { submission = b.submission; release = x; place = a.place; mark = a.mark }) release
    ∙ ap (λ (x : ℕ). record { submission = b.submission; release = b.release; place = x; mark = a.mark }) place
    ∙ ap (λ (x : Mark). record { submission = b.submission; release = b.release; place = b.place; mark = x }) mark

pub one_name : OneForm IsName form_name
one_name a b more rest here there is =
    let p = parts IsU64 le64 one_le64 a.submission b.submission _ _ more rest here.submission there.submission is in
    let q = parts IsU32 le32 one_le32 a.release b.release _ _ more rest here.release there.release p.1 in
    let r = parts IsU32 le32 one_le32 a.place b.place _ _ more rest here.place there.place q.1 in
    let s = one_mark a.mark b.mark more rest tt tt r.1 in
    (same_name a b p.0 q.0 r.0 s.0, s.1)

same_approval : (a b : ApprovalName) → a.submission ≡ b.submission → a.release ≡ b.release → a.gate ≡ b.gate → a ≡ b
same_approval a b submission release gate =
    ap (λ (x : ℕ). record { submission = x; release = a.release; gate = a.gate }) submission
    ∙ ap (λ (x : ℕ). record { submission = b.submission; release = x; gate = a.gate }) release
    ∙ ap (λ (x : ℕ). record { submission = b.submission; release = b.release; gate = x }) gate

pub one_approval : OneForm IsApprovalName form_approval
one_approval a b more rest here there is =
    let p = parts IsU64 le64 one_le64 a.submission b.submission _ _ more rest here.submission there.submission is in
    let q = parts IsU32 le32 one_le32 a.release b.release _ _ more rest here.release there.release p.1 in
    let r = one_le32 a.gate b.gate more rest here.gate there.gate q.1 in
    (same_approval a b p.0 q.0 r.0, r.1)

verdict_of : List ℕ → Verdict
verdict_of [] = verdicts.Approve
verdict_of (zero ∷ bytes) = verdicts.Approve
verdict_of (suc n ∷ bytes) = verdicts.Reject

verdict_back : (v : Verdict) (more : List ℕ) → verdict_of (form_verdict v ++ more) ≡ v
unfolding verdict_of
verdict_back verdicts.Approve more = refl
verdict_back verdicts.Reject more = refl

verdict_behind : (v : Verdict) (more : List ℕ) → drop 1 (form_verdict v ++ more) ≡ more
verdict_behind verdicts.Approve more = refl
verdict_behind verdicts.Reject more = refl

abbrev pub IsVerdict : Verdict → Type 0
IsVerdict v = ⊤

pub one_verdict : OneForm IsVerdict form_verdict
one_verdict a b more rest here there is = (
  sym (verdict_back a more) ∙ ap verdict_of is ∙ verdict_back b rest,
  sym (verdict_behind a more) ∙ ap (λ (l : List ℕ). drop 1 l) is ∙ verdict_behind b rest,
)

module _ {A : Type 0} (Is : A → Type 0) (form : A → List ℕ) (one : OneForm Is form) where
  one_row : (xs ys : List A) (more rest : List ℕ) → length xs ≡ length ys → AllByRecursion Is xs → AllByRecursion Is ys → flat_map form xs ++ more ≡ flat_map form ys ++ rest → (xs ≡ ys) × (more ≡ rest)
  one_row [] [] more rest long here there is = (refl, is)
  one_row [] (b ∷ ys) more rest long here there is = absurd (omega (arith, long))
  one_row (a ∷ xs) [] more rest long here there is = absurd (omega (arith, long))
  one_row (a ∷ xs) (b ∷ ys) more rest long here there is =
      let p = parts Is form one a b (flat_map form xs) (flat_map form ys) more rest here.0 there.0 is in
      let q = one_row xs ys more rest (omega (arith, long)) here.1 there.1 p.1 in
      (ap (λ (x : A). x ∷ xs) p.0 ∙ ap (λ (ws : List A). b ∷ ws) q.0, q.1)

  pub one_list : OneForm (IsListOf Is) (form_all form)
  one_list xs ys more rest here there is =
      let p = parts IsU32 le32 one_le32 (length xs) (length ys) _ _ more rest here.0 there.0 is in
      one_row xs ys more rest p.0 here.1 there.1 p.1

kind_of : List ℕ → ItemKind
kind_of [] = kinds.Version
kind_of (zero ∷ bytes) = kinds.Version
kind_of (suc zero ∷ bytes) = kinds.Report
kind_of (suc (suc zero) ∷ bytes) = kinds.Request
kind_of (suc (suc (suc n)) ∷ bytes) = kinds.Notice

kind_back : (k : ItemKind) (more : List ℕ) → kind_of (form_kind k ++ more) ≡ k
unfolding kind_of
kind_back kinds.Version more = refl
kind_back kinds.Report more = refl
kind_back kinds.Request more = refl
kind_back kinds.Notice more = refl

kind_behind : (k : ItemKind) (more : List ℕ) → drop 1 (form_kind k ++ more) ≡ more
kind_behind kinds.Version more = refl
kind_behind kinds.Report more = refl
kind_behind kinds.Request more = refl
kind_behind kinds.Notice more = refl

abbrev pub IsKind : ItemKind → Type 0
IsKind k = ⊤

pub one_kind : OneForm IsKind form_kind
one_kind a b more rest here there is = (
  sym (kind_back a more) ∙ ap kind_of is ∙ kind_back b rest,
  sym (kind_behind a more) ∙ ap (λ (l : List ℕ). drop 1 l) is ∙ kind_behind b rest,
)

abbrev pub IsHow : How → Type 0
IsHow h = ⊤

pub one_how : OneForm IsHow form_how
one_how hows.Expanded hows.Expanded more rest here there is = (refl, ap (λ (l : List ℕ). drop 1 l) is)
one_how hows.Forwarded hows.Forwarded more rest here there is = (refl, ap (λ (l : List ℕ). drop 1 l) is)
one_how hows.Expanded hows.Forwarded more rest here there is = absurd (cc is)
one_how hows.Forwarded hows.Expanded more rest here there is = absurd (cc is)

pub one_step : OneForm IsStep form_step
one_step a b more rest here there is =
    let p = parts IsKey form_bytes one_key a.key b.key _ _ more rest here there is in
    let q = one_how a.how b.how more rest tt tt p.1 in (
      ap (λ (k : List ℕ). let s : Step = record { key = k; how = a.how } in s) p.0 ∙ ap (λ (h : How). let s : Step = record { key = b.key; how = h } in s) q.0,
      q.1,
    )

pub one_why : OneForm IsWhy form_why
one_why whys.Direct whys.Direct more rest here there is = (refl, ap (λ (l : List ℕ). drop 1 l) is)
one_why (whys.Via a) (whys.Via b) more rest here there is =
    let p = one_list IsKey form_bytes one_key a b more rest here there (ap (λ (l : List ℕ). drop 1 l) is) in
    (ap (λ (k : List (List ℕ)). whys.Via k) p.0, p.1)
one_why (whys.Copied a) (whys.Copied b) more rest here there is =
    let p = one_le32 a b more rest here there (ap (λ (l : List ℕ). drop 1 l) is) in
    (ap (λ (n : ℕ). whys.Copied n) p.0, p.1)
one_why (whys.Redirected a) (whys.Redirected b) more rest here there is =
    let p = one_le32 a b more rest here there (ap (λ (l : List ℕ). drop 1 l) is) in
    (ap (λ (n : ℕ). whys.Redirected n) p.0, p.1)
one_why (whys.Through a) (whys.Through b) more rest here there is =
    let p = one_list IsStep form_step one_step a b more rest here there (ap (λ (l : List ℕ). drop 1 l) is) in
    (ap (λ (k : List Step). whys.Through k) p.0, p.1)
one_why whys.Direct (whys.Through b) more rest here there is = absurd (cc is)
one_why (whys.Via a) (whys.Through b) more rest here there is = absurd (cc is)
one_why (whys.Copied a) (whys.Through b) more rest here there is = absurd (cc is)
one_why (whys.Redirected a) (whys.Through b) more rest here there is = absurd (cc is)
one_why (whys.Through a) whys.Direct more rest here there is = absurd (cc is)
one_why (whys.Through a) (whys.Via b) more rest here there is = absurd (cc is)
one_why (whys.Through a) (whys.Copied b) more rest here there is = absurd (cc is)
one_why (whys.Through a) (whys.Redirected b) more rest here there is = absurd (cc is)
one_why whys.Direct (whys.Via b) more rest here there is = absurd (cc is)
one_why whys.Direct (whys.Copied b) more rest here there is = absurd (cc is)
one_why whys.Direct (whys.Redirected b) more rest here there is = absurd (cc is)
one_why (whys.Via a) whys.Direct more rest here there is = absurd (cc is)
one_why (whys.Via a) (whys.Copied b) more rest here there is = absurd (cc is)
one_why (whys.Via a) (whys.Redirected b) more rest here there is = absurd (cc is)
one_why (whys.Copied a) whys.Direct more rest here there is = absurd (cc is)
one_why (whys.Copied a) (whys.Via b) more rest here there is = absurd (cc is)
one_why (whys.Copied a) (whys.Redirected b) more rest here there is = absurd (cc is)
one_why (whys.Redirected a) whys.Direct more rest here there is = absurd (cc is)
one_why (whys.Redirected a) (whys.Via b) more rest here there is = absurd (cc is)
one_why (whys.Redirected a) (whys.Copied b) more rest here there is = absurd (cc is)

same_item : (a b : Item) → a.name ≡ b.name → a.folder ≡ b.folder → a.kind ≡ b.kind → a.why ≡ b.why → a.text ≡ b.text → a ≡ b
same_item a b name folder kind why text =
    ap (λ (x : ItemName). record { name = x; folder = a.folder; kind = a.kind; why = a.why; text = a.text }) name
    ∙ ap (λ (x : List ℕ). record { name = b.name; folder = x; kind = a.kind; why = a.why; text = a.text }) folder
    ∙ ap (λ (x : ItemKind). record { name = b.name; folder = b.folder; kind = x; why = a.why; text = a.text }) kind
    ∙ ap (λ (x : Why). record { name = b.name; folder = b.folder; kind = b.kind; why = x; text = a.text }) why
    ∙ ap (λ (x : ℕ). record { name = b.name; folder = b.folder; kind = b.kind; why = b.why; text = x }) text

pub one_item : OneForm IsItem form_item
one_item a b more rest here there is =
    let p = parts IsName form_name one_name a.name b.name _ _ more rest here.name there.name is in
    let q = parts IsKey form_bytes one_key a.folder b.folder _ _ more rest here.folder there.folder p.1 in
    let k = parts IsKind form_kind one_kind a.kind b.kind _ _ more rest tt tt q.1 in
    let w = parts IsWhy form_why one_why a.why b.why _ _ more rest here.why there.why k.1 in
    let r = one_le32 a.text b.text more rest here.text there.text w.1 in
    (same_item a b p.0 q.0 k.0 w.0 r.0, r.1)

pub one_gate : OneForm IsGate form_gate
one_gate (gates.Object a) (gates.Object b) more rest here there is =
    let p = one_key a b more rest here there (ap (λ (l : List ℕ). drop 1 l) is) in
    (ap (λ (k : List ℕ). gates.Object k) p.0, p.1)
one_gate (gates.Rule a) (gates.Rule b) more rest here there is =
    let p = one_le32 a b more rest here there (ap (λ (l : List ℕ). drop 1 l) is) in
    (ap (λ (n : ℕ). gates.Rule n) p.0, p.1)
one_gate (gates.Object a) (gates.Rule b) more rest here there is = absurd (cc is)
one_gate (gates.Rule a) (gates.Object b) more rest here there is = absurd (cc is)

tell_of : List ℕ → Tell
tell_of [] = tells.Always
tell_of (zero ∷ bytes) = tells.Always
tell_of (suc zero ∷ bytes) = tells.Internal
tell_of (suc (suc n) ∷ bytes) = tells.Never

tell_back : (t : Tell) (more : List ℕ) → tell_of (form_tell t ++ more) ≡ t
unfolding tell_of
tell_back tells.Always more = refl
tell_back tells.Internal more = refl
tell_back tells.Never more = refl

tell_behind : (t : Tell) (more : List ℕ) → drop 1 (form_tell t ++ more) ≡ more
tell_behind tells.Always more = refl
tell_behind tells.Internal more = refl
tell_behind tells.Never more = refl

abbrev pub IsTell : Tell → Type 0
IsTell t = ⊤

pub one_tell : OneForm IsTell form_tell
one_tell a b more rest here there is = (
  sym (tell_back a more) ∙ ap tell_of is ∙ tell_back b rest,
  sym (tell_behind a more) ∙ ap (λ (l : List ℕ). drop 1 l) is ∙ tell_behind b rest,
)

abbrev pub one_keys : OneForm (IsListOf IsKey) (form_all form_bytes)
one_keys = one_list IsKey form_bytes one_key

same_hold : (a b : Hold) → a.gate ≡ b.gate → a.label ≡ b.label → a.moderators ≡ b.moderators → a.tell ≡ b.tell → a ≡ b
same_hold a b gate label moderators tell =
    ap (λ (x : Gate). record { gate = x; label = a.label; moderators = a.moderators; tell = a.tell }) gate
    ∙ ap (λ (x : List ℕ). record { gate = b.gate; label = x; moderators = a.moderators; tell = a.tell }) label
    ∙ ap (λ (x : List (List ℕ)). record { gate = b.gate; label = b.label; moderators = x; tell = a.tell }) moderators
    ∙ ap (λ (x : Tell). record { gate = b.gate; label = b.label; moderators = b.moderators; tell = x }) tell

pub one_hold : OneForm IsHold form_hold
one_hold a b more rest here there is =
    let p = parts IsGate form_gate one_gate a.gate b.gate _ _ more rest here.gate there.gate is in
    let q = parts IsBytes form_bytes one_bytes a.label b.label _ _ more rest here.label there.label p.1 in
    let r = parts (IsListOf IsKey) (form_all form_bytes) one_keys a.moderators b.moderators _ _ more rest here.moderators there.moderators q.1 in
    let s = one_tell a.tell b.tell more rest tt tt r.1 in
    (same_hold a b p.0 q.0 r.0 s.0, s.1)

pub one_end : OneForm IsEnd form_end
one_end (ends.Rejected a xs) (ends.Rejected b ys) more rest here there is =
    let p = parts IsU32 le32 one_le32 a b _ _ more rest here.0 there.0 (ap (λ (l : List ℕ). drop 1 l) is) in
    let q = one_keys xs ys more rest here.1 there.1 p.1 in
    (ap (λ (n : ℕ). ends.Rejected n xs) p.0 ∙ ap (λ (k : List (List ℕ)). ends.Rejected b k) q.0, q.1)
one_end (ends.Unknown a) (ends.Unknown b) more rest here there is =
    let p = one_keys a b more rest here there (ap (λ (l : List ℕ). drop 1 l) is) in
    (ap (λ (k : List (List ℕ)). ends.Unknown k) p.0, p.1)
one_end ends.TooMany ends.TooMany more rest here there is = (refl, ap (λ (l : List ℕ). drop 1 l) is)
one_end (ends.Rejected a xs) (ends.Unknown b) more rest here there is = absurd (cc is)
one_end (ends.Rejected a xs) ends.TooMany more rest here there is = absurd (cc is)
one_end (ends.Unknown a) (ends.Rejected b ys) more rest here there is = absurd (cc is)
one_end (ends.Unknown a) ends.TooMany more rest here there is = absurd (cc is)
one_end ends.TooMany (ends.Rejected b ys) more rest here there is = absurd (cc is)
one_end ends.TooMany (ends.Unknown b) more rest here there is = absurd (cc is)

same_release : (a b : Release) → a.texts ≡ b.texts → a.items ≡ b.items → a.holds ≡ b.holds → a.ends ≡ b.ends → a ≡ b
same_release a b texts items holds ends =
    ap (λ (x : List (List ℕ)). record { texts = x; items = a.items; holds = a.holds; ends = a.ends }) texts
    ∙ ap (λ (x : List Item). record { texts = b.texts; items = x; holds = a.holds; ends = a.ends }) items
    ∙ ap (λ (x : List Hold). record { texts = b.texts; items = b.items; holds = x; ends = a.ends }) holds
    ∙ ap (λ (x : List End). record { texts = b.texts; items = b.items; holds = b.holds; ends = x }) ends

pub one_release : OneForm IsRelease form_release
one_release a b more rest here there is =
    let p = parts (IsListOf IsBytes) (form_all form_bytes) (one_list IsBytes form_bytes one_bytes) a.texts b.texts _ _ more rest here.texts there.texts is in
    let q = parts (IsListOf IsItem) (form_all form_item) (one_list IsItem form_item one_item) a.items b.items _ _ more rest here.items there.items p.1 in
    let r = parts (IsListOf IsHold) (form_all form_hold) (one_list IsHold form_hold one_hold) a.holds b.holds _ _ more rest here.holds there.holds q.1 in
    let s = one_list IsEnd form_end one_end a.ends b.ends more rest here.ends there.ends r.1 in
    (same_release a b p.0 q.0 r.0 s.0, s.1)

same_submission : (a b : Submitted) → a.origin ≡ b.origin → a.reverse ≡ b.reverse → a.recipients ≡ b.recipients → a.bytes ≡ b.bytes → a ≡ b
same_submission a b origin reverse recipients bytes =
    ap (λ (x : Origin). record { origin = x; reverse = a.reverse; recipients = a.recipients; bytes = a.bytes }) origin
    ∙ ap (λ (x : Option (List ℕ)). record { origin = b.origin; reverse = x; recipients = a.recipients; bytes = a.bytes }) reverse
    ∙ ap (λ (x : List (List ℕ)). record { origin = b.origin; reverse = b.reverse; recipients = x; bytes = a.bytes }) recipients
    ∙ ap (λ (x : List ℕ). record { origin = b.origin; reverse = b.reverse; recipients = b.recipients; bytes = x }) bytes

pub one_submission : OneForm IsSubmission form_submission
one_submission a b more rest here there is =
    let p = parts IsOrigin form_origin one_origin a.origin b.origin _ _ more rest here.origin there.origin is in
    let q = parts IsKeyOption form_key_option one_key_option a.reverse b.reverse _ _ more rest here.reverse there.reverse p.1 in
    let r = parts (IsListOf IsKey) (form_all form_bytes) (one_list IsKey form_bytes one_key) a.recipients b.recipients _ _ more rest here.recipients there.recipients q.1 in
    let s = one_bytes a.bytes b.bytes more rest here.bytes there.bytes r.1 in
    (same_submission a b p.0 q.0 r.0 s.0, s.1)

tail : (m n : ℕ) (a b : List ℕ) → m ∷ a ≡ n ∷ b → a ≡ b
tail m n a b is = ap (λ (l : List ℕ). drop 1 l) is

pub one_entry : OneForm IsEntry entry_text
one_entry (entries.Organised d r) (entries.Organised e s) more rest here there is =
    let p = parts IsBytes form_bytes one_bytes d e _ _ more rest here.0 there.0 (tail _ _ _ _ is) in
    let q = one_bytes r s more rest here.1 there.1 p.1 in
    (ap (λ (x : List ℕ). entries.Organised x r) p.0 ∙ ap (λ (x : List ℕ). entries.Organised e x) q.0, q.1)
one_entry (entries.Accepted m s) (entries.Accepted n t) more rest here there is =
    let p = parts IsU64 le64 one_le64 m n _ _ more rest here.0 there.0 (tail _ _ _ _ is) in
    let q = one_submission s t more rest here.1 there.1 p.1 in
    (ap (λ (x : ℕ). entries.Accepted x s) p.0 ∙ ap (λ (x : Submitted). entries.Accepted n x) q.0, q.1)
one_entry (entries.Categorised m i plan) (entries.Categorised n j other) more rest here there is =
    let p = parts IsU64 le64 one_le64 m n _ _ more rest here.0 there.0 (tail _ _ _ _ is) in
    let q = parts IsU32 le32 one_le32 i j _ _ more rest here.1 there.1 p.1 in
    let r = one_release plan other more rest here.2 there.2 q.1 in
    (ap (λ (x : ℕ). entries.Categorised x i plan) p.0 ∙ ap (λ (x : ℕ). entries.Categorised n x plan) q.0 ∙ ap (λ (x : Release). entries.Categorised n j x) r.0, r.1)
one_entry (entries.Decided name key verdict m) (entries.Decided other by reply n) more rest here there is =
    let p = parts IsApprovalName form_approval one_approval name other _ _ more rest here.0 there.0 (tail _ _ _ _ is) in
    let q = parts IsKey form_bytes one_key key by _ _ more rest here.1 there.1 p.1 in
    let r = parts IsVerdict form_verdict one_verdict verdict reply _ _ more rest tt tt q.1 in
    let s = one_le64 m n more rest here.2 there.2 r.1 in (
      ap (λ (x : ApprovalName). entries.Decided x key verdict m) p.0 ∙ ap (λ (x : List ℕ). entries.Decided other x verdict m) q.0
          ∙ ap (λ (x : Verdict). entries.Decided other by x m) r.0 ∙ ap (λ (x : ℕ). entries.Decided other by reply x) s.0,
      s.1,
    )
one_entry (entries.Moment m) (entries.Moment n) more rest here there is =
    let p = one_le64 m n more rest here there (tail _ _ _ _ is) in
    (ap (λ (x : ℕ). entries.Moment x) p.0, p.1)
one_entry (entries.Delivered a) (entries.Delivered b) more rest here there is =
    let p = one_name a b more rest here there (tail _ _ _ _ is) in
    (ap (λ (x : ItemName). entries.Delivered x) p.0, p.1)
one_entry (entries.Delayed a) (entries.Delayed b) more rest here there is =
    let p = one_name a b more rest here there (tail _ _ _ _ is) in
    (ap (λ (x : ItemName). entries.Delayed x) p.0, p.1)
one_entry (entries.Ended a) (entries.Ended b) more rest here there is =
    let p = one_name a b more rest here there (tail _ _ _ _ is) in
    (ap (λ (x : ItemName). entries.Ended x) p.0, p.1)
one_entry (entries.Forgot m) (entries.Forgot n) more rest here there is =
    let p = one_le64 m n more rest here there (tail _ _ _ _ is) in
    (ap (λ (x : ℕ). entries.Forgot x) p.0, p.1)
one_entry (entries.Organised d r) (entries.Accepted n t) more rest here there is = absurd (cc is)
one_entry (entries.Organised d r) (entries.Categorised n j other) more rest here there is = absurd (cc is)
one_entry (entries.Organised d r) (entries.Decided other by reply n) more rest here there is = absurd (cc is)
one_entry (entries.Organised d r) (entries.Moment n) more rest here there is = absurd (cc is)
one_entry (entries.Organised d r) (entries.Delivered b) more rest here there is = absurd (cc is)
one_entry (entries.Organised d r) (entries.Delayed b) more rest here there is = absurd (cc is)
one_entry (entries.Organised d r) (entries.Ended b) more rest here there is = absurd (cc is)
one_entry (entries.Organised d r) (entries.Forgot n) more rest here there is = absurd (cc is)
one_entry (entries.Accepted m s) (entries.Organised e t) more rest here there is = absurd (cc is)
one_entry (entries.Accepted m s) (entries.Categorised n j other) more rest here there is = absurd (cc is)
one_entry (entries.Accepted m s) (entries.Decided other by reply n) more rest here there is = absurd (cc is)
one_entry (entries.Accepted m s) (entries.Moment n) more rest here there is = absurd (cc is)
one_entry (entries.Accepted m s) (entries.Delivered b) more rest here there is = absurd (cc is)
one_entry (entries.Accepted m s) (entries.Delayed b) more rest here there is = absurd (cc is)
one_entry (entries.Accepted m s) (entries.Ended b) more rest here there is = absurd (cc is)
one_entry (entries.Accepted m s) (entries.Forgot n) more rest here there is = absurd (cc is)
one_entry (entries.Categorised m i plan) (entries.Organised e t) more rest here there is = absurd (cc is)
one_entry (entries.Categorised m i plan) (entries.Accepted n t) more rest here there is = absurd (cc is)
one_entry (entries.Categorised m i plan) (entries.Decided other by reply n) more rest here there is = absurd (cc is)
one_entry (entries.Categorised m i plan) (entries.Moment n) more rest here there is = absurd (cc is)
one_entry (entries.Categorised m i plan) (entries.Delivered b) more rest here there is = absurd (cc is)
one_entry (entries.Categorised m i plan) (entries.Delayed b) more rest here there is = absurd (cc is)
one_entry (entries.Categorised m i plan) (entries.Ended b) more rest here there is = absurd (cc is)
one_entry (entries.Categorised m i plan) (entries.Forgot n) more rest here there is = absurd (cc is)
one_entry (entries.Decided name key verdict m) (entries.Organised e t) more rest here there is = absurd (cc is)
one_entry (entries.Decided name key verdict m) (entries.Accepted n t) more rest here there is = absurd (cc is)
one_entry (entries.Decided name key verdict m) (entries.Categorised n j other) more rest here there is = absurd (cc is)
one_entry (entries.Decided name key verdict m) (entries.Moment n) more rest here there is = absurd (cc is)
one_entry (entries.Decided name key verdict m) (entries.Delivered b) more rest here there is = absurd (cc is)
one_entry (entries.Decided name key verdict m) (entries.Delayed b) more rest here there is = absurd (cc is)
one_entry (entries.Decided name key verdict m) (entries.Ended b) more rest here there is = absurd (cc is)
one_entry (entries.Decided name key verdict m) (entries.Forgot n) more rest here there is = absurd (cc is)
one_entry (entries.Moment m) (entries.Organised e t) more rest here there is = absurd (cc is)
one_entry (entries.Moment m) (entries.Accepted n t) more rest here there is = absurd (cc is)
one_entry (entries.Moment m) (entries.Categorised n j other) more rest here there is = absurd (cc is)
one_entry (entries.Moment m) (entries.Decided other by reply n) more rest here there is = absurd (cc is)
one_entry (entries.Moment m) (entries.Delivered b) more rest here there is = absurd (cc is)
one_entry (entries.Moment m) (entries.Delayed b) more rest here there is = absurd (cc is)
one_entry (entries.Moment m) (entries.Ended b) more rest here there is = absurd (cc is)
one_entry (entries.Moment m) (entries.Forgot n) more rest here there is = absurd (cc is)
one_entry (entries.Delivered a) (entries.Organised e t) more rest here there is = absurd (cc is)
one_entry (entries.Delivered a) (entries.Accepted n t) more rest here there is = absurd (cc is)
one_entry (entries.Delivered a) (entries.Categorised n j other) more rest here there is = absurd (cc is)
one_entry (entries.Delivered a) (entries.Decided other by reply n) more rest here there is = absurd (cc is)
one_entry (entries.Delivered a) (entries.Moment n) more rest here there is = absurd (cc is)
one_entry (entries.Delivered a) (entries.Delayed b) more rest here there is = absurd (cc is)
one_entry (entries.Delivered a) (entries.Ended b) more rest here there is = absurd (cc is)
one_entry (entries.Delivered a) (entries.Forgot n) more rest here there is = absurd (cc is)
one_entry (entries.Delayed a) (entries.Organised e t) more rest here there is = absurd (cc is)
one_entry (entries.Delayed a) (entries.Accepted n t) more rest here there is = absurd (cc is)
one_entry (entries.Delayed a) (entries.Categorised n j other) more rest here there is = absurd (cc is)
one_entry (entries.Delayed a) (entries.Decided other by reply n) more rest here there is = absurd (cc is)
one_entry (entries.Delayed a) (entries.Moment n) more rest here there is = absurd (cc is)
one_entry (entries.Delayed a) (entries.Delivered b) more rest here there is = absurd (cc is)
one_entry (entries.Delayed a) (entries.Ended b) more rest here there is = absurd (cc is)
one_entry (entries.Delayed a) (entries.Forgot n) more rest here there is = absurd (cc is)
one_entry (entries.Ended a) (entries.Organised e t) more rest here there is = absurd (cc is)
one_entry (entries.Ended a) (entries.Accepted n t) more rest here there is = absurd (cc is)
one_entry (entries.Ended a) (entries.Categorised n j other) more rest here there is = absurd (cc is)
one_entry (entries.Ended a) (entries.Decided other by reply n) more rest here there is = absurd (cc is)
one_entry (entries.Ended a) (entries.Moment n) more rest here there is = absurd (cc is)
one_entry (entries.Ended a) (entries.Delivered b) more rest here there is = absurd (cc is)
one_entry (entries.Ended a) (entries.Delayed b) more rest here there is = absurd (cc is)
one_entry (entries.Ended a) (entries.Forgot n) more rest here there is = absurd (cc is)
one_entry (entries.Forgot m) (entries.Organised e t) more rest here there is = absurd (cc is)
one_entry (entries.Forgot m) (entries.Accepted n t) more rest here there is = absurd (cc is)
one_entry (entries.Forgot m) (entries.Categorised n j other) more rest here there is = absurd (cc is)
one_entry (entries.Forgot m) (entries.Decided other by reply n) more rest here there is = absurd (cc is)
one_entry (entries.Forgot m) (entries.Moment n) more rest here there is = absurd (cc is)
one_entry (entries.Forgot m) (entries.Delivered b) more rest here there is = absurd (cc is)
one_entry (entries.Forgot m) (entries.Delayed b) more rest here there is = absurd (cc is)
one_entry (entries.Forgot m) (entries.Ended b) more rest here there is = absurd (cc is)
