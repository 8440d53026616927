-- How the first submission that another one repeats is found without a look at all of them.
use Rattle.std.specs.Prelude.{◌≡◌, ℕ, Bool, false, if◌then◌else◌, List, [], ◌++◌, fold, position, bytes_eq, Option, Some, None}
use Rattle.std.specs.Ordering.{nat_cmp}
use Rattle.std.specs.Cmp.Lexicographic.{slice_cmp}
use Rattle.std.specs.BTreeMap.{BTreeMap, get}
use Rattle.sha2.specs.Sha256.{sha256}
use Rattle.mail_submission.specs.Submission.{Submitted, has_message_id, same_submission}
use Rattle.mail_submission.specs.declared.submission.Origin.{Origin}
use Rattle.mail_submission.specs.declared.submission.Origin.TheVariants as origins
use Rattle.hub_core.specs.Mail.{LiveMail}

-- the octets of a reverse path, none for the null sender
abbrev pub path_octets : Option (List ℕ) → List ℕ
path_octets None = []
path_octets (Some key) = key

-- the digest of a digest and one part more
abbrev pub chained : List ℕ → List ℕ → List ℕ
chained digest part = sha256 (digest ++ part)

-- the digest of the reverse path, the recipients, a mark and the message
abbrev pub digest_under : List ℕ → Submitted → List ℕ
digest_under mark s = chained (chained (fold chained (chained [] (path_octets s.reverse)) s.recipients) mark) s.bytes

-- Where the message has no Message-Id, only what came from the pickup folder has a digest.
abbrev pub digest_from : Origin → Submitted → Option (List ℕ)
digest_from origins.Smtp s = None
digest_from (origins.Pickup mark) s = Some (digest_under mark s)

-- the digest that a submission shares with what repeats it, if something can
abbrev pub digest_of : Submitted → Option (List ℕ)
digest_of s = if has_message_id s.bytes then Some (digest_under [] s) else digest_from s.origin s

abbrev pub is_digest : List ℕ → Option (List ℕ) → Bool
is_digest digest None = false
is_digest digest (Some other) = bytes_eq other digest

abbrev pub has_digest : List ℕ → LiveMail → Bool
has_digest digest mail = is_digest digest (digest_of mail.submission)

-- the place that was found, or else the next one, if that is a hit
abbrev pub found_or : Option ℕ → Bool → ℕ → Option ℕ
found_or (Some place) hit next = Some place
found_or None hit next = if hit then Some next else None

-- the place that an index has for a digest
abbrev pub place_at : BTreeMap (List ℕ) ℕ → List ℕ → Option ℕ
place_at index digest = get (slice_cmp nat_cmp) index digest

-- The index has each digest at the first submission of that digest.
abbrev pub IsIndex : BTreeMap (List ℕ) ℕ → List LiveMail → Type 0
IsIndex index live = (digest : List ℕ) → place_at index digest ≡ position (has_digest digest) live

-- whether what stands there is repeated by this one
abbrev pub repeats_at : Option LiveMail → Submitted → Bool
repeats_at None s = false
repeats_at (Some mail) s = same_submission mail.submission s
