use Rattle.std.proofs.Common.{◌∙◌, ap}
use Rattle.serde_json.specs.Written.{has_float}
use Rattle.http_answers.proofs.Floats.{queue-float}
use Rattle.http_answers.proofs.answers.queue_response.Goals as goal

pub json_response-requires : goal.json_response-requires
json_response-requires c = ap has_float c.in_ok-queue_value.ensures ∙ queue-float c.args.queue.now
