-- A file that was submitted, and is there still, is submitted again as the same.
use Rattle.std.proofs.Common.{◌≡◌, ℕ, ◌<◌, ◌^◌, Bool, true, false, cond, List, [], ◌∷◌, length, refl, ap, ◌∙◌, sym, subst}
use Rattle.std.specs.Prelude.{◌&&◌, ◌||◌, nat_lt, bytes_eq, Option, Some, None, Result, Ok, Err}
use Rattle.std.specs.Cmp.Lexicographic.{pointwise}
use Rattle.std.specs.Result.{result_ok}
use Rattle.std.proofs.lemmas.Slice.Eq.{bytes_eq-Decides}
use Rattle.mail_message.specs.Message.{Mail}
use Rattle.mail_message.specs.ReadOf.{read_of}
use Rattle.mail_message.specs.declared.fault.MessageFault.{MessageFault}
use Rattle.mail_submission.specs.Submission.{Submitted, submission_of, submission_read, same_submission, same_mark, option_eq, has_message_id}
use Rattle.mail_submission.specs.declared.submission.TheConstants.{MOST_RECIPIENTS}
use Rattle.mail_submission.specs.declared.submission.Origin.{Origin}
use Rattle.mail_submission.specs.declared.submission.Origin.TheVariants as origins
use Rattle.mail_submission.specs.declared.submission.SubmissionFault.TheVariants as faults
use Rattle.mail_message.specs.Message.{text}
use Rattle.mail_message.specs.Edits.{remove_field}
use Rattle.std.specs.Prelude.{codes}
use Rattle.pickup_box.specs.PickupOf.{pickup_of, submitted_read, addressed, sent, senders_of, recipients_of}
use Rattle.pickup_box.specs.LineEnds.{with_crlf}
use Rattle.pickup_box.specs.Works.{mark_of, moved}
use Rattle.pickup_box.proofs.Marking.{marks_same}

is_same : (bytes : List ℕ) → bytes_eq bytes bytes ≡ true
is_same bytes = (bytes_eq-Decides bytes bytes).1 refl

all_same : (keys : List (List ℕ)) → pointwise bytes_eq keys keys ≡ true
all_same [] = refl
all_same (key ∷ keys) = ap (λ t. t && pointwise bytes_eq keys keys) (is_same key) ∙ all_same keys

option_same : (key : Option (List ℕ)) → option_eq key key ≡ true
option_same None = refl
option_same (Some key) = is_same key

either : (t u : Bool) → u ≡ true → (t || u) ≡ true
either true u h = refl
either false u h = h

mark_same : (o : Origin) (mark : List ℕ) → o ≡ origins.Pickup mark → same_mark o o ≡ true
mark_same o mark is = ap (λ (p : Origin). same_mark p p) is ∙ is_same mark

same_itself : (s : Submitted) (mark : List ℕ) → s.origin ≡ origins.Pickup mark → same_submission s s ≡ true
same_itself s mark is =
    ap (λ t. t && (pointwise bytes_eq s.recipients s.recipients && (bytes_eq s.bytes s.bytes && (has_message_id s.bytes || same_mark s.origin s.origin)))) (option_same s.reverse)
    ∙ ap (λ t. t && (bytes_eq s.bytes s.bytes && (has_message_id s.bytes || same_mark s.origin s.origin))) (all_same s.recipients)
    ∙ ap (λ t. t && (has_message_id s.bytes || same_mark s.origin s.origin)) (is_same s.bytes)
    ∙ either (has_message_id s.bytes) (same_mark s.origin s.origin) (mark_same s.origin mark is)

read_kept : (t s : Submitted) (r : Result Mail MessageFault) → result_ok (submission_read t r) ≡ Some s → s ≡ t
read_kept t s (Ok m) h = cc
read_kept t s (Err e) h = absurd cc

parts_kept : (t s : Submitted) (r : Result Mail MessageFault) (some many : Bool) →
    result_ok (cond some (cond many (Err faults.TooManyRecipients) (submission_read t r)) (Err faults.NoRecipients)) ≡ Some s → s ≡ t
parts_kept t s r true true h = absurd cc
parts_kept t s r true false h = read_kept t s r h
parts_kept t s r false many h = absurd cc

made_origin : (origin : Origin) (reverse : Option (List ℕ)) (recipients : List (List ℕ)) (bytes : List ℕ) (s : Submitted) →
    result_ok (submission_of origin reverse recipients bytes) ≡ Some s → s.origin ≡ origin
made_origin origin reverse recipients bytes s h =
    ap (λ (t : Submitted). t.origin)
    (parts_kept (record { origin = origin; reverse = reverse; recipients = recipients; bytes = bytes }) s (read_of bytes) (nat_lt 0 (length recipients)) (nat_lt MOST_RECIPIENTS (length recipients)) h)

sent_origin : (mark : List ℕ) (senders recipients : List (List ℕ)) (bytes : List ℕ) (s : Submitted) → sent mark senders recipients bytes ≡ Some s → s.origin ≡ origins.Pickup mark
sent_origin mark [] recipients bytes s h = absurd cc
sent_origin mark (sender ∷ others) recipients bytes s h = made_origin (origins.Pickup mark) (Some sender) recipients bytes s h

addressed_origin : (mark : List ℕ) (senders recipients : Option (List (List ℕ))) (bytes : List ℕ) (s : Submitted) → addressed mark senders recipients bytes ≡ Some s → s.origin ≡ origins.Pickup mark
addressed_origin mark None recipients bytes s h = absurd cc
addressed_origin mark (Some senders) None bytes s h = absurd cc
addressed_origin mark (Some senders) (Some recipients) bytes s h = sent_origin mark senders recipients bytes s h

read_origin : (mark : List ℕ) (m : Option Mail) (s : Submitted) → submitted_read mark m ≡ Some s → s.origin ≡ origins.Pickup mark
read_origin mark None s h = absurd cc
read_origin mark (Some m) s h = addressed_origin mark (senders_of m) (recipients_of m) (text (remove_field (codes "Bcc") m)) s h

file_origin : (mark file : List ℕ) (s : Submitted) → pickup_of mark file ≡ Some s → s.origin ≡ origins.Pickup mark
file_origin mark file s h = read_origin mark (result_ok (read_of (with_crlf file))) s h

pub repeats : (name bytes : List ℕ) (number other : ℕ) (first second : Submitted) → number < 2 ^ 64 →
    pickup_of (mark_of name number) bytes ≡ Some first → pickup_of (mark_of (mark_of name number) other) bytes ≡ Some second → same_submission first second ≡ true
repeats name bytes number other first second small one two =
    let again : Some first ≡ Some second = sym one ∙ ap (λ mark. pickup_of mark bytes) (sym (marks_same name number other small)) ∙ two in
    let same : first ≡ second = cc in
    subst (λ (s : Submitted). same_submission first s ≡ true) same (same_itself first (mark_of name number) (file_origin (mark_of name number) bytes first one))

pub stays : (name : List ℕ) (number : ℕ) (files : List ℕ → Option (List ℕ)) → moved name (mark_of name number) files (mark_of name number) ≡ files name
stays name number files =
    let mark = mark_of name number in
    ap (λ t. cond t (files name) (cond (bytes_eq mark name) None (files mark))) (is_same mark)
