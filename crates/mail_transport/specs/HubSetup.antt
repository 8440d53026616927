-- How the hub of the program is set up.
use Rattle.hub_core.specs.Setup.{Setup, setup_of}
use Rattle.hub_core.specs.Standing.{usual}
use Rattle.categorizer.specs.Meaning.{hub_means}

-- Organisations are read and releases are made by the categorizer, under the program's limits.
abbrev pub hub_setup : Setup
hub_setup = setup_of hub_means usual
