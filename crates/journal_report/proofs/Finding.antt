-- The parts of a report's bytes are those of the report.
use Rattle.std.proofs.Common.{◌≡◌, ℕ, ◌+◌, ◌-◌, ◌^◌, ◌<◌, ◌≤◌, true, false, List, [], ◌∷◌, ◌++◌, length, take, drop, refl, ap, ◌∙◌, arith, length-append, Option}
use Rattle.std.specs.Prelude.{◌&&◌, codes, decimal, nat_le, nat_lt}
use Rattle.std.specs.List.{list_all, AllByRecursion}
use Rattle.std.proofs.lemmas.Bool.Decides.{nat_tests}
use Rattle.std.proofs.lemmas.List.{take_at}
use Rattle.mail_names.specs.Names.{name_text, IsItemName}
use Rattle.mail_names.specs.declared.name.ItemName.{ItemName}
use Rattle.mail_message.specs.Lines.{crlf}
use Rattle.mail_message.specs.Enclose.{boundary_of}
use Rattle.journal_report.specs.declared.parts.ReportHead.{ReportHead}
use Rattle.journal_report.specs.declared.parts.Line.{Line}
use Rattle.journal_report.specs.Report.{report_line, to_line, sender_text, sender_line, original_id_line, original_subject_line, list_text, report_text}
use Rattle.journal_report.specs.Reports.{is_clean, has_route, is_report, FitsHead}
use Rattle.journal_report.specs.Reading.{place, line_at, skip, before_space, name_part, moment_part, mailbox_part, sender_part, id_part, subject_part, original_part, is_target, target_lines, TellsHead}
use Rattle.journal_report.proofs.Above.{above-append, parts, name_above}
use Rattle.journal_report.proofs.Cutting.{before_space_again, behind_space_again}
use Rattle.journal_report.proofs.Visible.{Visible, report_visible, to_visible, date_line_visible, id_visible, subject_visible, sender_visible, original_id_visible, original_subject_visible, count_visible, mark_visible}
use Rattle.journal_report.proofs.Shape.{text_of, front_lines, back_lines, behind_targets, end_of, shape, skip_again, line_at_again}

at_most : (a b : ℕ) → nat_le a b ≡ true → a ≤ b
at_most a b h = grind (arith, nat_tests)

less : (a b : ℕ) → nat_lt a b ≡ true → a < b
less a b h = grind (arith, nat_tests)

-- the conditions of a report
pub record Conditions (head : ReportHead) (lines : List Line) : Type 0 where
  pub moment : head.moment < 2 ^ 64
  pub id : is_clean head.message_id ≡ true
  pub subject : is_clean head.subject ≡ true
  pub count : length lines < 2 ^ 64

pub conditions : (head : ReportHead) (lines : List Line) → is_report head lines ≡ true → Conditions head lines
conditions head lines h =
    let a = parts (nat_le head.moment 253402300799) (is_clean head.message_id && (is_clean head.subject && (nat_lt 0 (length lines) && (nat_lt (length lines) (2 ^ 32) && list_all (λ line. has_route line.why) lines)))) h in
    let b = parts (is_clean head.message_id) (is_clean head.subject && (nat_lt 0 (length lines) && (nat_lt (length lines) (2 ^ 32) && list_all (λ line. has_route line.why) lines))) a.1 in
    let c = parts (is_clean head.subject) (nat_lt 0 (length lines) && (nat_lt (length lines) (2 ^ 32) && list_all (λ line. has_route line.why) lines)) b.1 in
    let d = parts (nat_lt 0 (length lines)) (nat_lt (length lines) (2 ^ 32) && list_all (λ line. has_route line.why) lines) c.1 in
    let e = parts (nat_lt (length lines) (2 ^ 32)) (list_all (λ line. has_route line.why) lines) d.1 in
    let moment = at_most head.moment 253402300799 a.0 in
    let count = less (length lines) (2 ^ 32) e.0 in
    record { moment = omega arith; id = b.0; subject = c.0; count = omega arith }

front_visible : (mark : List ℕ) (head : ReportHead) (count : ℕ) → Visible mark → FitsHead head → head.moment < 2 ^ 64 → is_clean head.message_id ≡ true → is_clean head.subject ≡ true → count < 2 ^ 64 →
    AllByRecursion Visible (front_lines mark head count)
front_visible mark head count m fits moment id subject small = (
  report_visible head.name head.moment fits.name moment,
  (
    refl,
    (
      to_visible head.mailbox fits.mailbox,
      (
        date_line_visible head.moment,
        (
          id_visible head.name fits.name,
          (
            subject_visible head.name fits.name,
            (
              refl,
              (
                above-append 32 (codes "Content-Type: multipart/mixed; boundary=\"") (mark ++ codes "\"") refl (above-append 32 mark (codes "\"") m refl),
                (
                  refl,
                  (
                    refl,
                    (
                      above-append 32 (codes "--") mark refl m,
                      (
                        refl,
                        (
                          refl,
                          (
                            refl,
                            (sender_visible head.sender fits.sender, (original_id_visible head.message_id id, (original_subject_visible head.subject subject, (count_visible count small, tt)))),
                          ),
                        ),
                      ),
                    ),
                  ),
                ),
              ),
            ),
          ),
        ),
      ),
    ),
  ),
)

-- the parts of lines
name_here : (name : ItemName) (moment : ℕ) → IsItemName name → before_space (drop 22 (report_line name moment)) ≡ name_text name
unfolding report_line
name_here name moment is = before_space_again (name_text name) (decimal moment) (name_above name is)

moment_here : (name : ItemName) (moment : ℕ) → IsItemName name → drop (place 32 (drop 22 (report_line name moment)) + 1) (drop 22 (report_line name moment)) ≡ decimal moment
unfolding report_line
moment_here name moment is = behind_space_again (name_text name) (decimal moment) (name_above name is)

without_last : (text : List ℕ) (b : ℕ) → take (length (text ++ b ∷ []) - 1) (text ++ b ∷ []) ≡ text
without_last text b = take_at text (b ∷ []) (length (text ++ b ∷ []) - 1) (let h = length-append text (b ∷ []) in size (length text) (length (text ++ b ∷ [])) h)
  where
    size : (n m : ℕ) → m ≡ n + 1 → n ≡ m - 1
    size n m h = omega arith

mailbox_here : (key : List ℕ) → take (length (drop 5 (to_line key)) - 1) (drop 5 (to_line key)) ≡ key
unfolding to_line
mailbox_here key = without_last key 62

sender_here : (sender : Option (List ℕ)) → drop 8 (sender_line sender) ≡ sender_text sender
unfolding sender_line
sender_here sender = refl

id_here : (id : List ℕ) → drop 13 (original_id_line id) ≡ id
unfolding original_id_line
id_here id = refl

subject_here : (subject : List ℕ) → drop 18 (original_subject_line subject) ≡ subject
unfolding original_subject_line
subject_here subject = refl

-- the bytes have these lines in front
tells : (bytes mark rest : List ℕ) (head : ReportHead) (count : ℕ) → FitsHead head → AllByRecursion Visible (front_lines mark head count) → bytes ≡ text_of (front_lines mark head count) ++ rest → TellsHead bytes head
unfolding name_part moment_part mailbox_part sender_part id_part subject_part
tells bytes mark rest head count fits all e =
    let front = front_lines mark head count in
    let first : line_at 0 bytes ≡ report_line head.name head.moment = ap (line_at 0) e ∙ line_at_again 0 front (report_line head.name head.moment) _ rest all (omega arith) refl all.0 in
    let to : line_at 2 bytes ≡ to_line head.mailbox = ap (line_at 2) e ∙ line_at_again 2 front (to_line head.mailbox) _ rest all (omega arith) refl all.1.1.0 in
    let sender : line_at 14 bytes ≡ sender_line head.sender = ap (line_at 14) e ∙ line_at_again 14 front (sender_line head.sender) _ rest all (omega arith) refl all.1.1.1.1.1.1.1.1.1.1.1.1.1.1.0 in
    let id : line_at 15 bytes ≡ original_id_line head.message_id = ap (line_at 15) e ∙ line_at_again 15 front (original_id_line head.message_id) _ rest all (omega arith) refl all.1.1.1.1.1.1.1.1.1.1.1.1.1.1.1.0 in
    let subject : line_at 16 bytes ≡ original_subject_line head.subject = ap (line_at 16) e ∙ line_at_again 16 front (original_subject_line head.subject) _ rest all (omega arith) refl all.1.1.1.1.1.1.1.1.1.1.1.1.1.1.1.1.0 in
    record {
      name = ap (λ (l : List ℕ). before_space (drop 22 l)) first ∙ name_here head.name head.moment fits.name;
      moment = ap (λ (l : List ℕ). drop (place 32 (drop 22 l) + 1) (drop 22 l)) first ∙ moment_here head.name head.moment fits.name;
      mailbox = ap (λ (l : List ℕ). take (length (drop 5 l) - 1) (drop 5 l)) to ∙ mailbox_here head.mailbox;
      sender = ap (λ (l : List ℕ). drop 8 l) sender ∙ sender_here head.sender;
      id = ap (λ (l : List ℕ). drop 13 l) id ∙ id_here head.message_id;
      subject = ap (λ (l : List ℕ). drop 18 l) subject ∙ subject_here head.subject;
    }

-- no target stands behind the targets
no_more : (mark original : List ℕ) → is_target (behind_targets mark original) ≡ false
unfolding is_target
no_more mark original = refl

original_here : (bytes mark original rest : List ℕ) (head : ReportHead) (count : ℕ) → Visible mark → AllByRecursion Visible (front_lines mark head count) →
    bytes ≡ text_of (front_lines mark head count) ++ rest → original_part bytes (behind_targets mark original) ≡ original
unfolding original_part
original_here bytes mark original rest head count m all e =
    let back = skip_again 4 (back_lines (codes "--" ++ mark)) (original ++ end_of (codes "--" ++ (mark ++ codes "--"))) (above-append 32 (codes "--") mark refl m, (refl, (refl, (refl, tt)))) (omega arith) in
    let between : line_at 10 bytes ≡ codes "--" ++ mark = ap (line_at 10) e ∙ line_at_again 10 (front_lines mark head count) (codes "--" ++ mark) _ rest all (omega arith) refl all.1.1.1.1.1.1.1.1.1.1.0 in
    ap (λ (t : List ℕ). take (length t - (length (line_at 10 bytes) + 6)) t) back
    ∙ ap (λ (l : List ℕ). take (length (original ++ end_of (codes "--" ++ (mark ++ codes "--"))) - (length l + 6)) (original ++ end_of (codes "--" ++ (mark ++ codes "--")))) between
    ∙ take_at original (end_of (codes "--" ++ (mark ++ codes "--"))) _ (size mark original)
  where
    size : (mark original : List ℕ) → length original ≡ length (original ++ end_of (codes "--" ++ (mark ++ codes "--"))) - (length (codes "--" ++ mark) + 6)
    size mark original = (let a = length-append original (end_of (codes "--" ++ (mark ++ codes "--"))) in let b = length-append (mark ++ codes "--") crlf in let d = length-append mark (codes "--") in omega arith)

-- what the bytes of a report tell
pub record Finds (bytes : List ℕ) (head : ReportHead) (lines : List Line) (original behind : List ℕ) : Type 0 where
  pub moment : head.moment < 2 ^ 64
  pub tells : TellsHead bytes head
  pub targets : skip 18 bytes ≡ target_lines lines ++ behind
  pub over : is_target behind ≡ false
  pub enclosed : original_part bytes behind ≡ original

pub found : (bytes : List ℕ) (head : ReportHead) (lines : List Line) (original : List ℕ) → FitsHead head → is_report head lines ≡ true → bytes ≡ report_text head lines original →
    Finds bytes head lines original (behind_targets (boundary_of (list_text head lines) original) original)
found bytes head lines original fits h e =
    let mark = boundary_of (list_text head lines) original in
    let is = conditions head lines h in
    let m = mark_visible (list_text head lines) original in
    let all = front_visible mark head (length lines) m fits is.moment is.id is.subject is.count in
    let same = e ∙ shape head lines original in
    let rest = target_lines lines ++ behind_targets mark original in
    record {
      moment = is.moment;
      tells = tells bytes mark rest head (length lines) fits all same;
      targets = ap (skip 18) same ∙ skip_again 18 (front_lines mark head (length lines)) rest all (omega arith);
      over = no_more mark original;
      enclosed = original_here bytes mark original rest head (length lines) m all same;
    }
