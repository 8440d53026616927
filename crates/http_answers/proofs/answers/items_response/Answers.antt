use Rattle.std.proofs.Common.{◌∙◌, ap}
use Rattle.serde_json.specs.Written.{has_float}
use Rattle.http_answers.proofs.Floats.{items-float}
use Rattle.http_answers.proofs.answers.items_response.Goals as goal

pub json_response-requires : goal.json_response-requires
json_response-requires c = ap has_float c.in_ok-items_value.ensures ∙ items-float c.args.names.now
