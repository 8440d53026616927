use Rattle.std.proofs.Common.{◌∙◌, ap}
use Rattle.serde_json.specs.Written.{has_float}
use Rattle.http_answers.proofs.Floats.{ended-float}
use Rattle.http_answers.proofs.answers.ended_response.Goals as goal

pub json_response-requires : goal.json_response-requires
json_response-requires c = ap has_float c.in_ok-ended_value.ensures ∙ ended-float c.args.rows.now
