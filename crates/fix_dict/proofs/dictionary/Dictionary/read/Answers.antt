use Rattle.fix_dict.proofs.JsonLemmas.{refused}
use Rattle.fix_dict.proofs.TwiceLemmas.{read_told}
use Rattle.fix_dict.proofs.dictionary.Dictionary.read.Goals as goal

pub returns-clause-told : goal.returns-clause-told
returns-clause-told c = read_told c.read_json.result c.args.json.now c.read_json.ensures.ok

pub returns-clause-not_json : goal.returns-clause-not_json
returns-clause-not_json c = refused c.read_json.result c.args.json.now c.read_json.ensures.not_json
