-- What a part of a value is, as code tells it.
use Rattle.std.specs.Prelude.{Bool, true, false}
use Rattle.structured_token.specs.declared.Kind.{Kind}
use Rattle.structured_token.specs.declared.Kind.TheVariants.{Plain}
use Rattle.parameterized_field.specs.declared.part.PartKind.{PartKind}
use Rattle.parameterized_field.specs.declared.part.PartKind.TheVariants.{Converted, Stays, Token}

abbrev pub is_parameter : PartKind → Bool
is_parameter Converted = true
is_parameter Stays = true
is_parameter (Token kind) = false

-- whether it is a parameter that is converted
abbrev pub converts : PartKind → Bool
converts Converted = true
converts Stays = false
converts (Token kind) = false

-- the kind of a token
abbrev pub token_kind : PartKind → Kind
token_kind Converted = Plain
token_kind Stays = Plain
token_kind (Token kind) = kind
