pub mod ContractLaws
pub mod RewriteLaws
