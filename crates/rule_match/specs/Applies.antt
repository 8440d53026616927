-- When a rule applies: for one sender, one recipient and one message.
use Rattle.std.specs.Prelude.{ℕ, nat_le, Bool, true, false, not, ◌&&◌, ◌||◌, List, length, codes, slice_get, is_some, Option, Some, None}
use Rattle.std.specs.List.{list_all, list_any}
use Rattle.mail_names.specs.Key.{domain_of}
use Rattle.mail_message.specs.Message.{Mail, field_of, text}
use Rattle.mail_message.specs.Edits.{is_plain}
use Rattle.org_directory.specs.Register.{Register, among, is_inside}
use Rattle.org_directory.specs.Membership.{is_in}
use Rattle.org_directory.specs.declared.object.Object.{Object}
use Rattle.rule_terms.specs.declared.rule.Rule.{Rule}
use Rattle.rule_terms.specs.declared.term.Side.{Side}
use Rattle.rule_terms.specs.declared.term.Side.TheVariants as sides
use Rattle.rule_terms.specs.declared.term.Term.{Term}
use Rattle.rule_terms.specs.declared.term.Term.TheVariants as terms
use Rattle.rule_match.specs.Words.{has_word}

-- who sends, at which moment, and the directory by which it is judged
pub record Setting : Type 0 where
  pub directory : Register
  pub sender : Option (List ℕ)
  pub moment : ℕ

-- a member, at any depth, of the object, where there is one
abbrev pub is_in_object : Register → List ℕ → Option Object → Bool
is_in_object reg key None = false
is_in_object reg key (Some o) = is_in reg o.key key

-- a member, at any depth, of a group at one of these places; a place that is no object's names nobody
abbrev pub is_in_one : Register → List ℕ → List ℕ → Bool
is_in_one reg groups key = list_any (λ place. is_in_object reg key (slice_get reg.objects place)) groups

abbrev pub is_side : Bool → Side → Bool
is_side inside sides.Inside = inside
is_side inside sides.Outside = not inside

-- The null sender is no key, in no group and of no domain, and is outside.
abbrev pub of_sender : (List ℕ → Bool) → Option (List ℕ) → Bool
of_sender test None = false
of_sender test (Some key) = test key

-- one of the words stands in a text, or in a field's value, where the field is there
abbrev pub has_one : List (List ℕ) → List ℕ → Bool
has_one words text = list_any (λ word. has_word word text) words

-- one of the words stands in the value, where there is one
abbrev pub value_has_one : List (List ℕ) → Option (List ℕ) → Bool
value_has_one words None = false
value_has_one words (Some value) = has_one words value

-- Holds: whether a term holds. Of several values one suffices.
abbrev pub holds : Setting → List ℕ → Mail → Term → Bool
holds s recipient m (terms.SenderIs keys) = of_sender (λ key. among key keys) s.sender
holds s recipient m (terms.RecipientIs keys) = among recipient keys
holds s recipient m (terms.SenderIn groups) = of_sender (is_in_one s.directory groups) s.sender
holds s recipient m (terms.RecipientIn groups) = is_in_one s.directory groups recipient
holds s recipient m (terms.SenderScope those) = list_any (is_side (of_sender (is_inside s.directory) s.sender)) those
holds s recipient m (terms.RecipientScope those) = list_any (is_side (is_inside s.directory recipient)) those
holds s recipient m (terms.SenderDomain domains) = of_sender (λ key. among (domain_of key) domains) s.sender
holds s recipient m (terms.RecipientDomain domains) = among (domain_of recipient) domains
holds s recipient m (terms.SubjectWords words) = value_has_one words (field_of (codes "Subject") m)
holds s recipient m (terms.TextWords words) =
    value_has_one words (field_of (codes "Subject") m) || (is_plain m && has_one words m.body)
holds s recipient m (terms.FieldWords field words) = value_has_one words (field_of field m)
holds s recipient m (terms.FieldPresent field) = is_some (field_of field m)
holds s recipient m (terms.SizeAtLeast bytes) = nat_le bytes (length (text m))

-- in force from the first moment on, and until the second one comes
abbrev pub has_begun : Option ℕ → ℕ → Bool
has_begun None moment = true
has_begun (Some from) moment = nat_le from moment

-- whether the moment has come at which a rule ends, if it does
abbrev pub has_ended : Option ℕ → ℕ → Bool
has_ended None moment = false
has_ended (Some until) moment = nat_le until moment

-- Applies: the rule is enabled and in force, every condition holds, and no exception does.
abbrev pub applies : Setting → List ℕ → Mail → Rule → Bool
applies s recipient m r =
    r.enabled && (has_begun r.from s.moment && (not (has_ended r.until s.moment)
    && (list_all (holds s recipient m) r.when && not (list_any (holds s recipient m) r.unless))))
