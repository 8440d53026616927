use Rattle.std.proofs.Common.{◌≡◌, drop}
use Rattle.org_directory.specs.Reading.{second_pass}
use Rattle.org_directory.proofs.second_pass.second_pass.Given as goal

abbrev pub invariant-loop-draft : goal.invariant-loop-draft
invariant-loop-draft l = second_pass l.drafts.drafts (drop l.draft-index l.draft-items) ≡ second_pass l.drafts.drafts l.drafts.drafts
