pub mod KnowledgeLaws
