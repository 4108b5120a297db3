use Rattle.wk_table_laws.proofs.JobParams.{fan_params-params_text}
use Rattle.wk_table_laws.proofs.fan_params_are_read_back.Goals as goal

pub returns : goal.returns
returns c = fan_params-params_text
