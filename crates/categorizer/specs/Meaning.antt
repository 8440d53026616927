-- What the planner of the hub makes of organisations.
use Rattle.mail_plan.specs.Means.{Means}
use Rattle.org_directory.specs.Register.{is_inside}
use Rattle.categorizer.specs.Organisation.{Organisation, organisation_of}
use Rattle.categorizer.specs.Releasing.{hub_release, takes}

abbrev pub hub_means : Means Organisation
hub_means = record {
  reads = organisation_of;
  directory_of = λ org. org.directory_text;
  rules_of = λ org. org.rules_text;
  release_of = hub_release;
  inside = λ org key. is_inside org.register key;
  takes = takes;
}
