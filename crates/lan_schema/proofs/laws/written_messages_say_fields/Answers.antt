use Rattle.lan_schema.proofs.WrittenTrees.{field_says}
use Rattle.lan_schema.proofs.laws.written_messages_say_fields.Goals as goal

pub returns : goal.returns
returns c = field_says
